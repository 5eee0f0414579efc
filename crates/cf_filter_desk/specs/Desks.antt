-- What stands in memory beside a volume, and what a step does to it.
use Rattle.std.specs.Prelude.{◌≡◌, ℕ, Bool, true, false, Option, Some, None, List, Result, Ok, Err, ◌++◌, ◌∷◌, []}
use Rattle.cf_base.specs.declared.codes.CallError.{CallError}
use Rattle.cf_base.specs.declared.codes.CallError.TheVariants.{No, OutOfMemory}
use Rattle.cf_base.specs.declared.ids.ItemId.{ItemId}
use Rattle.cf_base.specs.declared.ids.WaitId.{WaitId}
use Rattle.cf_base.specs.declared.notices.Notice.{Notice}
use Rattle.cf_base.specs.declared.notices.Notice.TheVariants as notice
use Rattle.cf_base.specs.declared.waits.End.{End}
use Rattle.cf_model.specs.Missing.{View}
use Rattle.cf_model.specs.Requests.{Told, Waiting}
use Rattle.cf_model.specs.Waits.{Need}
use Rattle.cf_waits.specs.Steps.{background_id, begun, begun_id, limit_of, limits_by, moved_of}
use Rattle.cf_waits.specs.declared.moves.Moves.{Moves}
use Rattle.cf_base.specs.declared.policies.Policy.{Policy}
use Rattle.cf_base.specs.declared.waits.Ask.{Ask}
use Rattle.cf_model.specs.State.{Filter, Open}

-- What a restart forgets. After a call that the device or memory stopped it is broken.
pub record Desk : Type 0 where
  pub policy : Policy
  pub connected : Bool
  pub handles : List Open
  pub handle_count : ℕ
  pub waiting : Waiting
  pub outbox : List Ask
  pub own : Option WaitId
  pub ending : Option End
  pub notes : List Notice
  pub broken : Bool
  -- memory ran out in the call that broke it
  pub lost : Bool

-- the desk of a state
abbrev pub desk_of : Filter → Desk
desk_of s = record {
  policy = s.policy;
  connected = s.connected;
  handles = s.handles;
  handle_count = s.handle_count;
  waiting = s.waiting;
  outbox = s.outbox;
  own = s.own;
  ending = s.ending;
  notes = s.notes;
  broken = false;
  lost = false;
}

-- a wait ended: the call's own, or another
abbrev pub ended : WaitId → End → Bool → Desk → Desk
ended wait end true d = record d { ending = Some end }
ended wait end false d = record d { notes = d.notes ++ notice.Done wait end ∷ [] }

-- the line of a background wait that began
abbrev pub background_lines : ItemId → Option WaitId → List Notice
background_lines item None = []
background_lines item (Some id) = notice.Background id item ∷ []

-- a call's own wait began, and perhaps one beside it
abbrev pub begun_on : ItemId → WaitId → Option WaitId → Waiting → Desk → Desk
begun_on item id beside w d = record d { waiting = w; own = Some id; ending = None; notes = d.notes ++ background_lines item beside }

-- what follows of a wait that begins on what is seen so
abbrev pub after_begun : Need → View → Waiting → Told × Waiting
after_begun n v w = begun n.kind n.item n.handle n.span n.background v w

-- A wait began; or it would pass a limit, and nothing changed; or there was no memory.
abbrev pub BeginsBy : Need → View → Desk → Result (WaitId × Moves) CallError → Desk → Type 0
BeginsBy n v old (Ok m) new =
    (limit_of (limits_by n.kind) (after_begun n v old.waiting).1 ≡ None) × (m.0 ≡ begun_id 0 old.waiting) × (m.1 ≡ moved_of (background_id n.background n.item old.waiting) (after_begun n v old.waiting).0)
    × (new ≡ begun_on n.item (begun_id 0 old.waiting) (background_id n.background n.item old.waiting) (after_begun n v old.waiting).1 old)
BeginsBy n v old (Err (No c)) new = (limit_of (limits_by n.kind) (after_begun n v old.waiting).1 ≡ Some c) × (new ≡ old)
BeginsBy n v old (Err OutOfMemory) new = Unit {0}

-- a refusal changes nothing
abbrev pub IfRefused : CallError → Desk → Desk → Type 0
IfRefused (No c) old new = new ≡ old
IfRefused OutOfMemory old new = Unit {0}
