use Rattle.std.proofs.Common.{◌≡◌, ◌++◌, ◌∷◌, [], List, drop}
use Rattle.std.specs.Prelude.{Result}
use Rattle.cf_base.specs.declared.answers.AuxRecord.{AuxRecord}
use Rattle.cf_base.specs.declared.changes.Change.{Change}
use Rattle.cf_base.specs.declared.codes.CallError.{CallError}
use Rattle.cf_base.specs.declared.ids.ItemId.{ItemId}
use Rattle.cf_filter_machine.specs.Entering.{Enters, MayEnter, held}
use Rattle.cf_filter_machine.specs.Held.{Held}
use Rattle.cf_filter_machine.specs.Sensing.{Stands}
use Rattle.cf_model.specs.Books.{Book}
use Rattle.cf_model.specs.Operations.{changes_with}
use Rattle.cf_filter_machine.proofs.entry_lists.enter_before.Given as goal

-- what enters the rest enters all
abbrev pub invariant-loop-change : goal.invariant-loop-change
invariant-loop-change g l =
    ((dir : ItemId) (f : Book → Book) (last : Change) (records : List AuxRecord) (r : Result (Unit {0}) CallError) (y : Held _)
    → Enters g.G.Ground.state dir (Stands g.G.Ground.state) (MayEnter f dir (drop l.change-index l.before ++ last ∷ []) records) (changes_with f (drop l.change-index l.before ++ last ∷ [])) (held l.volume l.desk) r y
    → Enters g.G.Ground.state dir (Stands g.G.Ground.state) (MayEnter f dir (l.before ++ last ∷ []) records) (changes_with f (l.before ++ last ∷ [])) (held l.fn.volume l.fn.desk) r y)
    × (l.desk.waiting ≡ l.fn.desk.waiting)
