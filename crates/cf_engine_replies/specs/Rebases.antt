-- A change beside which an entry ends, which mirrors the code: no definitions to believe.
use Rattle.std.specs.Prelude.{◌≡◌, Option, None}
use Rattle.cf_base.specs.declared.answers.AuxRecord.{AuxRecord}
use Rattle.cf_base.specs.declared.changes.Change.{Change}
use Rattle.cf_base.specs.declared.codes.Code.{Code}
use Rattle.cf_base.specs.declared.ids.Token.{Token}
use Rattle.cf_engine_host.specs.BookSteps.{records_of, with_book_of}
use Rattle.cf_filter_steps.specs.Answering.{Sense}
use Rattle.cf_filter_steps.specs.Suiting.{Ready, Suits}
use Rattle.cf_model.specs.Arrows.{Arrow, then_do}
use Rattle.cf_model.specs.Books.{QueueEntry, without_entry}
use Rattle.cf_model.specs.Formats.{with_record}
use Rattle.cf_model.specs.PushReplies.{see_and_mark, take}
use Rattle.cf_model.specs.Skips.{change_refused, do_change}
use Rattle.cf_model.specs.State.{Filter, State}

-- the filter without the entry
abbrev pub without : Token → Filter → Filter
without token s = with_book_of (without_entry token) s

-- why the change is refused there
abbrev pub refused_without : Token → Change → Filter → Option Code
refused_without token c s = change_refused c (without token s).volume

-- it suits and finds room there
abbrev pub ReadyWithout : Token → Change → Filter → Type 0
ReadyWithout token c s = Ready c (without token s)

pub record ReadyIf {X : Type 0} (S : Sense X) (token : Token) (c : Change) (x : X) (o : Option Code) : Type 0 where
  pub ready : o ≡ None → (s : Filter) → S.means x s → ReadyWithout token c s

-- in each state it is refused so, and suits where it is not
pub record RefusedIf {X : Type 0} (S : Sense X) (c : Change) (x : X) (o : Option Code) : Type 0 where
  pub refused : (s : Filter) → S.means x s → o ≡ change_refused c s.volume
  pub suits : o ≡ None → (s : Filter) → S.means x s → Suits c s.volume

-- the record brings back what stood before the entry went
abbrev pub PutsBack : Token → AuxRecord → Filter → Type 0
PutsBack token r s = with_record r (records_of (without token s)) ≡ records_of s

pub record StandsIf {X : Type 0} (S : Sense X) (token : Token) (r : AuxRecord) (x : X) : Type 0 where
  pub back : (s : Filter) → S.means x s → PutsBack token r s

-- the change is made, and the item is marked where it may be; before that the entry ends
abbrev pub change_and_mark : QueueEntry → Change → Arrow State (Unit {0})
change_and_mark e c = then_do (do_change c) (see_and_mark e)

abbrev pub rebase_now : QueueEntry → Change → Arrow State (Unit {0})
rebase_now e c = then_do (take e) (change_and_mark e c)
