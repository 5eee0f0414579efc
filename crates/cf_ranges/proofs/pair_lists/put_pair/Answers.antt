use Rattle.std.proofs.Common.{ℕ, List, Some, ◌∙◌, ap, sym, subst, arith}
use Rattle.std.proofs.lemmas.List.{get_or_default}
use Rattle.cf_ranges.specs.Pairs.{IsAt, IsGapFor, IsRising, Puts}
use Rattle.cf_ranges.proofs.Maps.{present, absent, puts_set, rising_set, puts_insert, rising_insert}
use Rattle.cf_ranges.proofs.pair_lists.put_pair.Goals as goal

pub returns-in-Ok-clause-before : goal.returns-in-Ok-clause-before
returns-in-Ok-clause-before c =
    let found = subst (λ (l : List (ℕ × ℕ)). IsAt l c.args.block c.in-Ok.place) c.deref.ensures.value c.in-Ok.ensures.found in
    ap (λ (p : ℕ × ℕ). Some p.1) (c.index.ensures ∙ get_or_default c.args.pairs.now.items c.in-Ok.place c.index.result.now (0, 0) found.in_range)
    ∙ sym (present 0 c.args.pairs.now.items c.args.block c.in-Ok.place c.requires found)

pub returns-in-Ok-clause-ok : goal.returns-in-Ok-clause-ok
returns-in-Ok-clause-ok c =
    let found = subst (λ (l : List (ℕ × ℕ)). IsAt l c.args.block c.in-Ok.place) c.deref.ensures.value c.in-Ok.ensures.found in
    puts_set 0 c.args.pairs.now.items c.args.block c.args.cluster c.in-Ok.place c.requires found

pub returns-in-Ok-clause-rising : goal.returns-in-Ok-clause-rising
returns-in-Ok-clause-rising c =
    let found = subst (λ (l : List (ℕ × ℕ)). IsAt l c.args.block c.in-Ok.place) c.deref.ensures.value c.in-Ok.ensures.found in
    rising_set 0 c.args.pairs.now.items c.args.block c.args.cluster c.in-Ok.place c.requires found

pub returns-in_ok-insert-in-Err-clause-before : goal.returns-in_ok-insert-in-Err-clause-before
returns-in_ok-insert-in-Err-clause-before c =
    let gap = subst (λ (l : List (ℕ × ℕ)). IsGapFor l c.args.block c.in-Err.place) c.deref.ensures.value c.in-Err.ensures.absent in
    sym (absent 0 c.args.pairs.now.items c.args.block c.in-Err.place c.requires gap)

pub returns-in_ok-insert-in-Err-clause-ok : goal.returns-in_ok-insert-in-Err-clause-ok
returns-in_ok-insert-in-Err-clause-ok c =
    let gap = subst (λ (l : List (ℕ × ℕ)). IsGapFor l c.args.block c.in-Err.place) c.deref.ensures.value c.in-Err.ensures.absent in
    subst (λ (l : List (ℕ × ℕ)). Puts c.args.pairs.now.items l c.args.block (Some c.args.cluster)) (sym c.in_ok-insert-in-Err.ensures.items)
    (puts_insert 0 c.args.pairs.now.items c.args.block c.args.cluster c.in-Err.place c.requires gap)

pub returns-in_ok-insert-in-Err-clause-rising : goal.returns-in_ok-insert-in-Err-clause-rising
returns-in_ok-insert-in-Err-clause-rising c =
    let gap = subst (λ (l : List (ℕ × ℕ)). IsGapFor l c.args.block c.in-Err.place) c.deref.ensures.value c.in-Err.ensures.absent in
    subst IsRising (sym c.in_ok-insert-in-Err.ensures.items) (rising_insert 0 c.args.pairs.now.items c.args.block c.args.cluster c.in-Err.place (omega arith) c.requires gap)
