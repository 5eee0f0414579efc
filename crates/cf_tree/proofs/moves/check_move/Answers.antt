use Rattle.std.proofs.Common.{◌≡◌, ◌+◌, ◌∙◌, List, ap, arith, eqb, length, ltb, sym, ℕ}
use Rattle.std.specs.List.{list_any}
use Rattle.cf_model.specs.LookUp.{depth_at, height_at}
use Rattle.cf_tree.proofs.Heights.{below_itself, into_itself, may_move, name_taken, taken_is, too_deep}
use Rattle.cf_tree.proofs.WayUp.{line_is}
use Rattle.cf_tree.proofs.moves.check_move.Goals as goal

pub returns-then-eq : goal.returns-then-eq
returns-then-eq c = λ items i m t e. into_itself _ _ _ _ (sym c.eq.ensures ∙ c.if-eq.true)

pub returns-then-above : goal.returns-then-above
returns-then-above c = λ items i m t e. below_itself _ _ _ _ (sym (c.line_of-above.ensures.passes ∙ ap (λ (l : List ℕ). list_any (λ k. eqb k c.args.id.0) l) (line_is 32 c.args.rows.now.rows items c.args.parent m t (omega arith))) ∙ c.if-above.true)

pub returns-then-branch : goal.returns-then-branch
returns-then-branch c = λ items i m t e.
    let deep : depth_at items c.args.parent ≡ c.line_of-above.result.depth = sym (c.line_of-above.ensures.depth ∙ ap length (line_is 32 c.args.rows.now.rows items c.args.parent m t (omega arith))) in
    too_deep _ _ _ _ (sym c.eq.ensures ∙ c.if-eq.false) (sym (c.line_of-above.ensures.passes ∙ ap (λ (l : List ℕ). list_any (λ k. eqb k c.args.id.0) l) (line_is 32 c.args.rows.now.rows items c.args.parent m t (omega arith))) ∙ c.if-above.false) (ap (λ (n : ℕ). ltb 32 (n + 1 + height_at items c.args.id)) deep ∙ sym (c.in_ok-reaches_too_deep.ensures items i m t e) ∙ c.if-branch.true)

pub returns-then-is_taken : goal.returns-then-is_taken
returns-then-is_taken c = λ items i m t e.
    let deep : depth_at items c.args.parent ≡ c.line_of-above.result.depth = sym (c.line_of-above.ensures.depth ∙ ap length (line_is 32 c.args.rows.now.rows items c.args.parent m t (omega arith))) in
    name_taken _ _ _ _ (sym c.eq.ensures ∙ c.if-eq.false) (sym (c.line_of-above.ensures.passes ∙ ap (λ (l : List ℕ). list_any (λ k. eqb k c.args.id.0) l) (line_is 32 c.args.rows.now.rows items c.args.parent m t (omega arith))) ∙ c.if-above.false) (ap (λ (n : ℕ). ltb 32 (n + 1 + height_at items c.args.id)) deep ∙ sym (c.in_ok-reaches_too_deep.ensures items i m t e) ∙ c.if-branch.false)
    (sym (c.is_taken.ensures ∙ taken_is c.args.rows.now.rows items c.args.id c.args.parent c.args.name.now m) ∙ c.if-is_taken.true)

pub returns : goal.returns
returns c = λ items i m t e.
    let deep : depth_at items c.args.parent ≡ c.line_of-above.result.depth = sym (c.line_of-above.ensures.depth ∙ ap length (line_is 32 c.args.rows.now.rows items c.args.parent m t (omega arith))) in
    may_move _ _ _ _ (sym c.eq.ensures ∙ c.if-eq.false) (sym (c.line_of-above.ensures.passes ∙ ap (λ (l : List ℕ). list_any (λ k. eqb k c.args.id.0) l) (line_is 32 c.args.rows.now.rows items c.args.parent m t (omega arith))) ∙ c.if-above.false) (ap (λ (n : ℕ). ltb 32 (n + 1 + height_at items c.args.id)) deep ∙ sym (c.in_ok-reaches_too_deep.ensures items i m t e) ∙ c.if-branch.false)
    (sym (c.is_taken.ensures ∙ taken_is c.args.rows.now.rows items c.args.id c.args.parent c.args.name.now m) ∙ c.if-is_taken.false)
