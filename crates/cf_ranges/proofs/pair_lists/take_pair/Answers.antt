use Rattle.std.proofs.Common.{ℕ, List, Some, None, ◌∙◌, ap, sym, subst}
use Rattle.std.proofs.lemmas.List.{get_or_default}
use Rattle.cf_ranges.specs.Pairs.{IsAt, IsGapFor, IsRising, Puts}
use Rattle.cf_ranges.proofs.Maps.{present, absent, puts_none, puts_remove, rising_remove}
use Rattle.cf_ranges.proofs.pair_lists.take_pair.Goals as goal

pub returns-in-Ok-clause-before : goal.returns-in-Ok-clause-before
returns-in-Ok-clause-before c =
    let found = subst (λ (l : List (ℕ × ℕ)). IsAt l c.args.block c.in-Ok.place) c.deref.ensures.value c.in-Ok.ensures.found in
    ap (λ (p : ℕ × ℕ). Some p.1) (c.remove.ensures.value ∙ get_or_default c.args.pairs.now.items c.in-Ok.place c.remove.result (0, 0) found.in_range)
    ∙ sym (present 0 c.args.pairs.now.items c.args.block c.in-Ok.place c.requires found)

pub returns-in-Ok-clause-after : goal.returns-in-Ok-clause-after
returns-in-Ok-clause-after c =
    let found = subst (λ (l : List (ℕ × ℕ)). IsAt l c.args.block c.in-Ok.place) c.deref.ensures.value c.in-Ok.ensures.found in
    subst (λ (l : List (ℕ × ℕ)). Puts c.args.pairs.now.items l c.args.block None) (sym c.remove.ensures.items)
    (puts_remove 0 c.args.pairs.now.items c.args.block c.in-Ok.place c.requires found)

pub returns-in-Ok-clause-rising : goal.returns-in-Ok-clause-rising
returns-in-Ok-clause-rising c =
    let found = subst (λ (l : List (ℕ × ℕ)). IsAt l c.args.block c.in-Ok.place) c.deref.ensures.value c.in-Ok.ensures.found in
    subst IsRising (sym c.remove.ensures.items) (rising_remove 0 c.args.pairs.now.items c.args.block c.in-Ok.place c.requires found)

pub returns-in-Err-clause-before : goal.returns-in-Err-clause-before
returns-in-Err-clause-before c =
    let gap = subst (λ (l : List (ℕ × ℕ)). (i : ℕ) × IsGapFor l c.args.block i) c.deref.ensures.value (_, c.in-Err.ensures.absent) in
    sym (absent 0 c.args.pairs.now.items c.args.block gap.0 c.requires gap.1)

pub returns-in-Err-clause-after : goal.returns-in-Err-clause-after
returns-in-Err-clause-after c =
    let gap = subst (λ (l : List (ℕ × ℕ)). (i : ℕ) × IsGapFor l c.args.block i) c.deref.ensures.value (_, c.in-Err.ensures.absent) in
    puts_none c.args.pairs.now.items c.args.block (absent 0 c.args.pairs.now.items c.args.block gap.0 c.requires gap.1)
