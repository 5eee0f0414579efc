use Rattle.std.proofs.Common.{◌≡◌, ◌+◌, ◌++◌, ◌∙◌, ◌∷◌, ℕ, List, ap, append_assoc, arith, drop, get_or, length, suc, sym, subst, ◌<◌}
use Rattle.std.proofs.Math.Seq.{drop-cons}
use Rattle.std.specs.List.{AllByRecursion, flat_map}
use Rattle.cf_base.specs.declared.messages.Entry.{Entry}
use Rattle.cf_model.specs.Frames.{spell_entry}
use Rattle.cf_wire.specs.Spelled.{FitsEntry}
use Rattle.cf_wire.proofs.spelled_replies.put_each.Goals as goal

-- the entries that are left begin with this one
next : (es : List Entry) (i : ℕ) (e : Entry) → i < length es → e ≡ get_or es i e → drop i es ≡ e ∷ drop (i + 1) es
next es i e lt is =
    let after : suc i ≡ i + 1 = omega arith in
    drop-cons es i e lt ∙ ap (λ (r : Entry). r ∷ drop (suc i) es) (sym is) ∙ ap (λ (n : ℕ). e ∷ drop n es) after

pub put_entry-requires : goal.put_entry-requires
put_entry-requires c = rw c.entry-item.is (c.requires c.loop-entry.entry-index _ c.loop-entry-test.true)

pub loop-entry-preserved : goal.loop-entry-preserved
loop-entry-preserved c =
    let e = c.entry-item.result in
    let i = c.loop-entry.entry-index in
    let es = c.args.entries.now in
    let parts : drop i es ≡ e ∷ drop (i + 1) es = next es i e (omega (arith, c.loop-entry-test.true)) c.entry-item.is in
    record {
      spelled = ap (λ (o : List ℕ). o ++ flat_map spell_entry (drop (i + 1) es)) c.in_ok-put_entry.ensures.ok
          ∙ append_assoc c.loop-entry.out (spell_entry e) (flat_map spell_entry (drop (i + 1) es))
          ∙ ap (λ (l : List Entry). c.loop-entry.out ++ flat_map spell_entry l) (sym parts) ∙ c.loop-entry.invariant.spelled;
      fit = λ rest. c.loop-entry.invariant.fit (subst (AllByRecursion FitsEntry) (sym parts) (c.in_ok-put_entry.ensures.fits, rest));
    }
