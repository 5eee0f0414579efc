-- The state of a volume as a value of JSON, and the line that shows it.
use Rattle.std.specs.Prelude.{ℕ, Bool, true, List, [], ◌∷◌, ◌++◌, codes, map}
use Rattle.serde_json.specs.Data.{Data, boolean, number, string, array, object, unsigned, member, no_members}
use Rattle.serde_json.specs.View.{items_of}
use Rattle.serde_json.specs.Written.{compact_text}
use Rattle.cf_base.specs.declared.ids.ItemId.{ItemId}
use Rattle.cf_base.specs.declared.ids.Usn.{Usn}
use Rattle.cf_base.specs.declared.items.Kind.{Kind}
use Rattle.cf_base.specs.declared.items.Pin.{Pin}
use Rattle.cf_base.specs.declared.spans.Span.{Span}
use Rattle.cf_model.specs.Images.{runs_of}
use Rattle.cf_model.specs.Items.{Item, here_flags, kind_of, size_of}
use Rattle.cf_report.specs.Changes.{kind_word, pin_word}
use Rattle.cf_report.specs.Words.{bytes_text, usn_text}

abbrev pub count_value : ℕ → Data
count_value n = number (unsigned n)

abbrev pub list_value : List Data → Data
list_value ds = array (items_of ds)

-- a run of bytes by its start and its length
abbrev pub run_value : Span → Data
run_value r = list_value (count_value r.start ∷ count_value r.len ∷ [])

-- what is shown of an item
pub record Facts : Type 0 where
  -- the maximal runs of the bytes that are here
  pub here : List Span
  pub id : ItemId
  pub identity : List ℕ
  pub in_sync : Bool
  pub kind : Kind
  pub name : List ℕ
  pub number : Usn
  pub parent : ItemId
  pub pin : Pin
  pub size : ℕ

abbrev pub facts_of : Item → Facts
facts_of i = record {
  here = runs_of (here_flags i);
  id = i.id;
  identity = i.identity;
  in_sync = i.in_sync;
  kind = kind_of i;
  name = i.name;
  number = i.number;
  parent = i.parent;
  pin = i.pin;
  size = size_of i;
}

-- Identity, kind, number and pin are shown by the words of a report, and the name by its bytes.
abbrev pub facts_value : Facts → Data
facts_value f =
    object (member (codes "here") (list_value (map run_value f.here))
    (member (codes "id") (count_value f.id.0)
    (member (codes "identity") (string (bytes_text f.identity))
    (member (codes "insync") (boolean f.in_sync)
    (member (codes "kind") (string (kind_word f.kind))
    (member (codes "name") (string f.name)
    (member (codes "number") (string (usn_text f.number))
    (member (codes "parent") (count_value f.parent.0)
    (member (codes "pin") (string (pin_word f.pin))
    (member (codes "size") (count_value f.size)
    no_members))))))))))

-- how many changes were accepted, the epoch, and what is shown of the items, in order of id
abbrev pub document : ℕ → ℕ → List Facts → Data
document count epoch facts =
    object (member (codes "count") (count_value count)
    (member (codes "epoch") (count_value epoch)
    (member (codes "items") (list_value (map facts_value facts))
    no_members)))

abbrev pub volume_value : ℕ → ℕ → List Item → Data
volume_value count epoch items = document count epoch (map facts_of items)

-- the volume is off
abbrev pub off_value : Data
off_value = object (member (codes "off") (boolean true) no_members)

-- compact JSON on one line
abbrev pub line_of : Data → List ℕ
line_of d = compact_text d ++ 10 ∷ []
