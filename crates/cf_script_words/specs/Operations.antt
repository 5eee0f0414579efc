-- The operations of a provider, by the words after their key.
use Rattle.std.specs.Prelude.{ℕ, List, [], ◌∷◌, Bool, false, ◌≡◌}
use Rattle.cf_base.specs.declared.ids.Key.{Key}
use Rattle.cf_base.specs.declared.operations.NewItem.{NewItem}
use Rattle.cf_base.specs.declared.operations.Operation.{Operation}
use Rattle.cf_base.specs.declared.operations.Operation.TheVariants as operation
use Rattle.cf_script_words.specs.declared.commands.OperationCommand.{OperationCommand}
use Rattle.cf_script_words.specs.declared.commands.OperationCommand.TheVariants as operation_word
use Rattle.cf_script_words.specs.Words.{IsNumber, IsData}
use Rattle.cf_script_words.specs.Entries.{AreEntries}
use Rattle.cf_script_words.specs.Names.{good_name}
use Rattle.cf_script_words.specs.Shapes.{OfOne, OfTwo, OfThree}

-- an operation: what follows its key
abbrev pub IsTransfer : Key → List ℕ → List ℕ → Operation → Type 0
IsTransfer key o d op = (at : ℕ) × (bytes : List ℕ) × IsNumber o at × IsData d bytes × (op ≡ operation.Transfer key at bytes)

abbrev pub IsFail : Key → List ℕ → List ℕ → List ℕ → Operation → Type 0
IsFail key o l s op = (start len status : ℕ) × IsNumber o start × IsNumber l len × IsNumber s status × (op ≡ operation.Refuse key (record { start = start; len = len }) status)

abbrev pub IsRetrieve : Key → List ℕ → List ℕ → Operation → Type 0
IsRetrieve key o l op = (start len : ℕ) × IsNumber o start × IsNumber l len × (op ≡ operation.Retrieve key (record { start = start; len = len }))

abbrev pub IsAck : Key → List ℕ → List ℕ → List ℕ → Operation → Type 0
IsAck key o l g op = (start len : ℕ) × (good : Bool) × IsNumber o start × IsNumber l len × (g ≡ good_name good) × (op ≡ operation.Ack key (record { start = start; len = len }) good)

abbrev pub IsRehydrate : Key → List (List ℕ) → Operation → Type 0
IsRehydrate key [] op = op ≡ operation.Restart key
IsRehydrate key (w ∷ ws) op = ⊥

abbrev pub IsEntries : Key → List (List ℕ) → Operation → Type 0
IsEntries key [] op = ⊥
IsEntries key (g ∷ ws) op = (good : Bool) × (list : List NewItem) × (g ≡ good_name good) × (good ≡ false → ws ≡ []) × AreEntries ws list × (op ≡ operation.Entries key list good)

abbrev pub IsAckDehydrate : Key → List ℕ → Operation → Type 0
IsAckDehydrate key g op = (good : Bool) × (g ≡ good_name good) × (op ≡ operation.AckDehydrate key good)

abbrev pub IsOperation : OperationCommand → Key → List (List ℕ) → Operation → Type 0
IsOperation operation_word.Transfer key ws op = OfTwo (IsTransfer key) ws op
IsOperation operation_word.Fail key ws op = OfThree (IsFail key) ws op
IsOperation operation_word.Retrieve key ws op = OfTwo (IsRetrieve key) ws op
IsOperation operation_word.Ack key ws op = OfThree (IsAck key) ws op
IsOperation operation_word.Rehydrate key ws op = IsRehydrate key ws op
IsOperation operation_word.Entries key ws op = IsEntries key ws op
IsOperation operation_word.AckDehydrate key ws op = OfOne (IsAckDehydrate key) ws op
