-- The operations of a provider, as a script spells them.
use Rattle.std.specs.Prelude.{ℕ, Bool, true, false, List, [], Option, Some, None, codes, ◌&&◌, ◌||◌, ◌∷◌, if◌then◌else◌}
use Rattle.std.specs.Str.{bytes_eq}
use Rattle.cf_base.specs.declared.ids.Key.{Key}
use Rattle.cf_base.specs.declared.operations.NewItem.{NewItem}
use Rattle.cf_base.specs.declared.operations.Operation.{Operation}
use Rattle.cf_base.specs.declared.operations.Operation.TheVariants as operation
use Rattle.cf_base.specs.declared.spans.Span.{Span}
use Rattle.cf_examples.specs.Words.{Form, bytes, identity, is_empty, none, num, one, only, split_at, then_some, three, two, unescaped, word_of}

-- an entry: `NAME,file,NUM,IDENT` or `NAME,dir,IDENT`, with `,insync` after it or not
abbrev pub entry : List ℕ → Option NewItem
entry w = of (split_at 44 w) where
  named : List ℕ → Bool → ℕ → List ℕ → Bool → Option NewItem
  named name dir size ident mark = then_some (unescaped true name) (λ n. then_some (identity ident) (λ i. Some (record { name = n; dir = dir; size = size; identity = i; mark = mark })))

  file : List ℕ → List ℕ → List ℕ → Bool → Option NewItem
  file name size ident mark = then_some (num size) (λ n. named name false n ident mark)

  of : List (List ℕ) → Option NewItem
  of (name ∷ kind ∷ a ∷ []) = only (bytes_eq kind (codes "dir")) (named name true 0 a false)
  of (name ∷ kind ∷ a ∷ b ∷ []) =
      if bytes_eq kind (codes "dir") then only (bytes_eq b (codes "insync")) (named name true 0 a true)
      else only (bytes_eq kind (codes "file")) (file name a b false)
  of (name ∷ kind ∷ a ∷ b ∷ c ∷ []) = only (bytes_eq kind (codes "file") && bytes_eq c (codes "insync")) (file name a b true)
  of _ = None

abbrev pub entries : List (List ℕ) → Option (List NewItem)
entries [] = Some []
entries (w ∷ ws) = then_some (entry w) (λ e. then_some (entries ws) (λ es. Some (e ∷ es)))

abbrev pub good : List ℕ → Option Bool
good = word_of ((codes "ok", true) ∷ (codes "no", false) ∷ [])

abbrev pub span_of : ℕ → ℕ → Span
span_of start len = record { start = start; len = len }

-- what stands after the key of a listing: `no`, or `ok` and the entries
abbrev pub listing : Key → Form Operation
listing key [] = None
listing key (w ∷ ws) = then_some (good w) (λ g. then_some (entries ws) (λ es. only (g || is_empty es) (Some (operation.Entries key es g))))

-- the operation of this word and key, by the words after them
abbrev pub operation_of : List ℕ → Key → Form Operation
operation_of w key ws = then_some (word_of (
    (codes "transfer", two num bytes (λ at bs. operation.Transfer key at bs))
    ∷ (codes "fail", three num num num (λ s n status. operation.Refuse key (span_of s n) status))
    ∷ (codes "retrieve", two num num (λ s n. operation.Retrieve key (span_of s n)))
    ∷ (codes "ack", three num num good (λ s n g. operation.Ack key (span_of s n) g))
    ∷ (codes "rehydrate", none (operation.Restart key))
    ∷ (codes "entries", listing key)
    ∷ (codes "ackdehydrate", one good (λ g. operation.AckDehydrate key g)) ∷ []) w) (λ form. form ws)
