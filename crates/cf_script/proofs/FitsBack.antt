-- What a line spells can be spelled: each part of the event is in its range.
use Rattle.std.proofs.Common.{◌≡◌, ℕ, zero, suc, ◌<◌, Bool, true, false, List, [], ◌∷◌, refl, sym, subst, ◌∙◌, inl, inr, arith}
use Rattle.std.specs.Prelude.{IsTrue}
use Rattle.std.specs.List.{list_all}
use Rattle.std.specs.Str.{IsUtf8}
use Rattle.hex.specs.Hex.{IsBytes}
use Rattle.cf_base.specs.declared.ids.Key.{Key}
use Rattle.cf_base.specs.declared.policies.Mode.{Mode}
use Rattle.cf_base.specs.declared.policies.Mode.TheVariants as mode
use Rattle.cf_base.specs.declared.operations.NewItem.{NewItem}
use Rattle.cf_base.specs.declared.operations.Operation.{Operation}
use Rattle.cf_base.specs.declared.calls.Call.{Call}
use Rattle.cf_base.specs.declared.events.DeviceEvent.{DeviceEvent}
use Rattle.cf_base.specs.declared.events.DeviceEvent.TheVariants as device
use Rattle.cf_base.specs.declared.events.PeerEvent.{PeerEvent}
use Rattle.cf_base.specs.declared.events.EngineEvent.{EngineEvent}
use Rattle.cf_base.specs.declared.events.ProviderEvent.{ProviderEvent}
use Rattle.cf_base.specs.declared.events.Event.{Event}
use Rattle.cf_base.specs.declared.events.Event.TheVariants as event
use Rattle.cf_script_words.specs.declared.commands.Command.{Command}
use Rattle.cf_script_words.specs.declared.commands.Command.TheVariants as command
use Rattle.cf_script_words.specs.declared.commands.BareCommand.TheVariants as bare
use Rattle.cf_script_words.specs.declared.commands.PathCommand.TheVariants as on_path
use Rattle.cf_script_words.specs.declared.commands.NumberCommand.TheVariants as on_number
use Rattle.cf_script_words.specs.declared.commands.PeerCommand.TheVariants as peer_word
use Rattle.cf_script_words.specs.declared.commands.OperationCommand.{OperationCommand}
use Rattle.cf_script_words.specs.declared.commands.OperationCommand.TheVariants as operation_word
use Rattle.cf_script_words.specs.Words.{IsKey, IsData, IsPath, written, escape_byte}
use Rattle.cf_script.specs.Modes.{is_foreign, is_for_engine, is_for_provider}
use Rattle.std.specs.Prelude.{◌==◌, ◌&&◌, not, nat_le, replicate, cond}
use Rattle.std.specs.List.{slice_split, onto_first}
use Rattle.std.proofs.lemmas.List.Folds.{list_all-append}
use Rattle.cf_script_words.specs.declared.commands.BareCommand.{BareCommand}
use Rattle.cf_script_words.specs.declared.commands.PathCommand.{PathCommand}
use Rattle.cf_script_words.specs.declared.commands.NumberCommand.{NumberCommand}
use Rattle.cf_script_words.specs.declared.commands.WordCommand.TheVariants as on_word
use Rattle.cf_script_words.specs.declared.commands.TwoWordCommand.TheVariants as on_two
use Rattle.cf_script_words.specs.declared.commands.ThreeWordCommand.TheVariants as on_three
use Rattle.cf_script_words.specs.declared.commands.LongCommand.TheVariants as long
use Rattle.cf_script_words.specs.declared.commands.OtherCommand.TheVariants as other
use Rattle.cf_script_words.specs.declared.commands.PeerCommand.{PeerCommand}
use Rattle.cf_script.specs.Forms.{Follows, AreWords, IsBareLine, IsPathLine, IsNumberLine, IsPeerWord, IsPeerPair, IsPeerEvent, IsKeyOf, kept}
use Rattle.cf_script_words.specs.Operations.{IsOperation}
use Rattle.cf_script_words.specs.Entries.{IsEntryRest, AreFields, AreEntries, escape_name_byte, fields_of}
use Rattle.cf_script.specs.Script.{AreEvents, IsScript, Spells, event_lines, is_plain, lines_of, words_of}
use Rattle.cf_script.specs.Fits.{is_of, ItemFits, ItemsFit, KeyFits, PathFits, CallFits, ChoiceFits, DeviceFits, PeerFits, EngineFits, OperationFits, PlanKeyFits, ProviderFits, CanSpell}
use Rattle.cf_script_print.specs.Printed.{key_of}
use Rattle.cf_script_words.proofs.PathMeans.{code_cases, name_code}
use Rattle.cf_script_words.proofs.WordTexts.{and_parts}

abbrev AllPlain : List (List ℕ) → Type 0
AllPlain [] = Unit {0}
AllPlain (w ∷ ws) = (is_plain w ≡ true) × AllPlain ws

abbrev plain_byte : ℕ → Bool
plain_byte b = nat_le 32 b && not (b == 127)

onto_plain : (b : ℕ) (parts : List (List ℕ)) → plain_byte b ≡ true → AllPlain parts → AllPlain (onto_first b parts)
onto_plain b [] h all = (rw h refl, tt)
onto_plain b (w ∷ ws) h all = (rw (h, all.0) refl, all.1)

-- the parts of a plain text are plain
parts_plain : (p : ℕ → Bool) (text : List ℕ) → is_plain text ≡ true → AllPlain (slice_split p text)
parts_plain p [] h = (refl, tt)
parts_plain p (b ∷ bs) h =
    let k = and_parts (plain_byte b) (is_plain bs) h in
    let rest = parts_plain p bs k.1 in
    cut (p b) (slice_split p bs) rest (onto_plain b (slice_split p bs) k.0 rest)
  where
    cut : (t : Bool) (parts : List (List ℕ)) → AllPlain parts → AllPlain (onto_first b parts) → AllPlain (cond t ([] ∷ parts) (onto_first b parts))
    cut true parts all onto = (refl, all)
    cut false parts all onto = onto

-- what is written plainly is plain
written_was_plain : (f : ℕ → List ℕ) → ((b : ℕ) → is_plain (f b) ≡ true → plain_byte b ≡ true) → (bs : List ℕ) → is_plain (written f bs) ≡ true → is_plain bs ≡ true
written_was_plain f each [] h = refl
written_was_plain f each (b ∷ bs) h =
    let k = and_parts (is_plain (f b)) (is_plain (written f bs)) (sym (list_all-append plain_byte (f b) (written f bs)) ∙ h) in
    rw (each b k.0, written_was_plain f each bs k.1) refl

path_byte_plain : (b : ℕ) → is_plain (escape_byte b) ≡ true → plain_byte b ≡ true
path_byte_plain b h = elim (code_cases b) [
  | inl p ↦ rw p.0 refl
  | inr (inl p) ↦ rw p.0 refl
  | inr (inr p) ↦ (and_parts (plain_byte b) true (subst (λ t. is_plain t ≡ true) p.1 h)).0
]

name_byte_plain : (b : ℕ) → is_plain (escape_name_byte b) ≡ true → plain_byte b ≡ true
name_byte_plain b h = elim (name_code b) [
  | inl p ↦ rw p.0 refl
  | inr p ↦ path_byte_plain b (subst (λ t. is_plain t ≡ true) p.1 h)
]

path_fits : (w path : List ℕ) → is_plain w ≡ true → IsPath w path → PathFits path
path_fits w path plain is = (is.0, is.1, written_was_plain escape_byte path_byte_plain path (subst (λ t. is_plain t ≡ true) is.2 plain))

key_fits : (w : List ℕ) (key : Key) → IsKey w key → KeyFits key
key_fits w key is = (is.0, is.1)

same_bytes : (n b : ℕ) → b < 256 → IsBytes (replicate n b)
same_bytes zero b small i = omega arith
same_bytes (suc n) b small zero = small
same_bytes (suc n) b small (suc i) = same_bytes n b small i

data_fits : (w bytes : List ℕ) → IsData w bytes → IsBytes bytes
unfolding IsData
data_fits w bytes is = elim is [
  | inl p ↦ p.0
  | inr s ↦ subst IsBytes (sym s.3.4) (same_bytes s.3.1 s.3.0 (s.3.2.0 0))
]

-- events of applications and of the device are in both modes
call_of : (m : Mode) (c : Call) → CallFits c → CanSpell m (event.Call c)
call_of mode.Replay c h = (refl, h)
call_of mode.Filter c h = (refl, h)

device_of : (m : Mode) (d : DeviceEvent) → DeviceFits d → CanSpell m (event.Device d)
device_of mode.Replay d h = (refl, h)
device_of mode.Filter d h = (refl, h)

engine_of : (m : Mode) (c : Command) (e : EngineEvent) → is_for_engine c ≡ true → is_foreign m c ≡ false → EngineFits e → CanSpell m (event.Engine e)
engine_of mode.Replay c e is here h = (refl, h)
engine_of mode.Filter c e is here h = absurd cc

peer_of : (m : Mode) (p : PeerEvent) → is_foreign m (command.Other other.Peer) ≡ false → PeerFits p → CanSpell m (event.Peer p)
peer_of mode.Replay p here h = (refl, h)
peer_of mode.Filter p here h = absurd cc

provider_of : (m : Mode) (c : Command) (p : ProviderEvent) → is_for_provider c ≡ true → is_foreign m c ≡ false → ProviderFits p → CanSpell m (event.Provider p)
provider_of mode.Filter c p is here h = (refl, h)
provider_of mode.Replay c p is here h = absurd cc

is_it : (m : Mode) (e f : Event) → e ≡ f → CanSpell m f → CanSpell m e
is_it m e f same h = subst (CanSpell m) (sym same) h

bare_fits : (m : Mode) (c : BareCommand) (ws : List (List ℕ)) (e : Event) → is_foreign m (command.Bare c) ≡ false → IsBareLine c ws e → CanSpell m e
bare_fits m c (w ∷ ws) e here x = absurd x
bare_fits m bare.Flush [] e here x = is_it m e _ x (call_of m _ tt)
bare_fits m bare.Df [] e here x = is_it m e _ x (call_of m _ tt)
bare_fits m bare.Connect [] e here x = is_it m e _ x (call_of m _ tt)
bare_fits m bare.Disconnect [] e here x = is_it m e _ x (call_of m _ tt)
bare_fits m bare.Restart [] e here x = is_it m e _ x (device_of m _ tt)
bare_fits m bare.Work [] e here x = is_it m e _ x (engine_of m (command.Bare bare.Work) _ refl here tt)
bare_fits m bare.Sync [] e here x = is_it m e _ x (engine_of m (command.Bare bare.Sync) _ refl here tt)

path_line_fits : (m : Mode) (c : PathCommand) (p : List ℕ) (e : Event) → is_foreign m (command.OnPath c) ≡ false → is_plain p ≡ true → IsPathLine c p e → CanSpell m e
path_line_fits m on_path.Open p e here plain x = is_it m e _ x.2 (call_of m _ (path_fits p x.0 plain x.1))
path_line_fits m on_path.Create p e here plain x = is_it m e _ x.2 (call_of m _ (path_fits p x.0 plain x.1))
path_line_fits m on_path.Mkdir p e here plain x = is_it m e _ x.2 (call_of m _ (path_fits p x.0 plain x.1))
path_line_fits m on_path.Delete p e here plain x = is_it m e _ x.2 (call_of m _ (path_fits p x.0 plain x.1))
path_line_fits m on_path.List p e here plain x = is_it m e _ x.2 (call_of m _ (path_fits p x.0 plain x.1))
path_line_fits m on_path.Hydrate p e here plain x = is_it m e _ x.2 (call_of m _ (path_fits p x.0 plain x.1))
path_line_fits m on_path.Info p e here plain x = is_it m e _ x.2 (call_of m _ (path_fits p x.0 plain x.1))
path_line_fits m on_path.Used p e here plain x = is_it m e _ x.2 (call_of m _ (path_fits p x.0 plain x.1))
path_line_fits m on_path.Revert p e here plain x = is_it m e _ x.2 (provider_of m (command.OnPath on_path.Revert) _ refl here (path_fits p x.0 plain x.1))
path_line_fits m on_path.Unmark p e here plain x = is_it m e _ x.2 (provider_of m (command.OnPath on_path.Unmark) _ refl here (path_fits p x.0 plain x.1))

number_line_fits : (m : Mode) (c : NumberCommand) (w : List ℕ) (e : Event) → is_foreign m (command.OnNumber c) ≡ false → IsNumberLine c w e → CanSpell m e
number_line_fits m on_number.Stop w e here x = is_it m e _ x.2 (device_of m _ x.1.0)
number_line_fits m on_number.Deliver w e here x = is_it m e _ x.2 (engine_of m (command.OnNumber on_number.Deliver) _ refl here x.1.0)
number_line_fits m on_number.Arrive w e here x = is_it m e _ x.2 (engine_of m (command.OnNumber on_number.Arrive) _ refl here x.1.0)
number_line_fits m on_number.Space w e here x = is_it m e _ x.2 (engine_of m (command.OnNumber on_number.Space) _ refl here x.1.0)

peer_word_fits : (m : Mode) (c : PeerCommand) (p : List ℕ) (e : Event) → is_foreign m (command.Other other.Peer) ≡ false → is_plain p ≡ true → IsPeerWord c p e → CanSpell m e
peer_word_fits m peer_word.Mkdir p e here plain x = is_it m e _ x.2 (peer_of m _ here (path_fits p x.0 plain x.1))
peer_word_fits m peer_word.Remove p e here plain x = is_it m e _ x.2 (peer_of m _ here (path_fits p x.0 plain x.1))
peer_word_fits m peer_word.Stat p e here plain x = is_it m e _ x.2 (peer_of m _ here (path_fits p x.0 plain x.1))
peer_word_fits m peer_word.Keep n e here plain x = is_it m e _ x.2 (peer_of m _ here (x.1.0.0, x.1.1))
peer_word_fits m c p e here plain x = absurd x

peer_pair_fits : (m : Mode) (c : PeerCommand) (p d : List ℕ) (e : Event) → is_foreign m (command.Other other.Peer) ≡ false → is_plain p ≡ true → is_plain d ≡ true → IsPeerPair c p d e → CanSpell m e
peer_pair_fits m peer_word.Put p d e here plain plain' x = is_it m e _ x.4 (peer_of m _ here (path_fits p x.0 plain x.2, data_fits d x.1 x.3))
peer_pair_fits m peer_word.Move p q e here plain plain' x = is_it m e _ x.4 (peer_of m _ here (path_fits p x.0 plain x.2, path_fits q x.1 plain' x.3))
peer_pair_fits m c p d e here plain plain' x = absurd x

peer_event_fits : (m : Mode) (c : PeerCommand) (ws : List (List ℕ)) (e : Event) → is_foreign m (command.Other other.Peer) ≡ false → AllPlain ws → IsPeerEvent c ws e → CanSpell m e
peer_event_fits m c (p ∷ []) e here all x = peer_word_fits m c p e here all.0 x
peer_event_fits m c (p ∷ d ∷ []) e here all x = peer_pair_fits m c p d e here all.0 all.1.0 x
peer_event_fits m c ws e here all x = absurd x

entry_rest_fits : (dir : Bool) (name : List ℕ) (ws : List (List ℕ)) (item : NewItem) → IsUtf8 name → is_plain name ≡ true → IsEntryRest dir name ws item → ItemFits item
entry_rest_fits false name (n ∷ i ∷ f) item utf8 plain x = subst ItemFits (sym x.6) (utf8, plain, x.3.0, (λ e. let k : false ≡ true = e in absurd cc), x.4.0)
entry_rest_fits true name (i ∷ f) item utf8 plain x = subst ItemFits (sym x.4) (utf8, plain, omega arith, (λ e. refl), x.2.0)
entry_rest_fits dir name ws item utf8 plain x = absurd x

fields_fit : (ws : List (List ℕ)) (item : NewItem) → AllPlain ws → AreFields ws item → ItemFits item
fields_fit (w ∷ k ∷ ws) item all x = entry_rest_fits x.1 x.0 ws item x.2.0 (written_was_plain escape_name_byte name_byte_plain x.0 (subst (λ t. is_plain t ≡ true) x.2.1 all.0)) x.4
fields_fit [] item all x = absurd x
fields_fit (w ∷ []) item all x = absurd x

entries_fit : (ws : List (List ℕ)) (items : List NewItem) → AllPlain ws → AreEntries ws items → ItemsFit items
entries_fit [] [] all x = tt
entries_fit (w ∷ ws) (item ∷ items) all x = (fields_fit (fields_of w) item (parts_plain (λ b. b == 44) w all.0) x.0, entries_fit ws items all.1 x.1)
entries_fit [] (item ∷ items) all x = absurd x
entries_fit (w ∷ ws) [] all x = absurd x

no_entries : (ws : List (List ℕ)) (items : List NewItem) → ws ≡ [] → AreEntries ws items → items ≡ []
no_entries [] [] e x = refl
no_entries [] (item ∷ items) e x = absurd x
no_entries (w ∷ ws) items e x = absurd cc

abbrev OpFits : Key → Operation → Type 0
OpFits key op = (key_of op ≡ key) × OperationFits op

operation_fits : (c : OperationCommand) (key : Key) (ws : List (List ℕ)) (op : Operation) → AllPlain ws → IsOperation c key ws op → OpFits key op
operation_fits operation_word.Transfer key (o ∷ d ∷ []) op all x = subst (OpFits key) (sym x.4) (refl, (x.2.0, data_fits d x.1 x.3))
operation_fits operation_word.Fail key (o ∷ l ∷ s ∷ []) op all x = subst (OpFits key) (sym x.6) (refl, ((x.3.0, x.4.0), x.5.0))
operation_fits operation_word.Retrieve key (o ∷ l ∷ []) op all x = subst (OpFits key) (sym x.4) (refl, (x.2.0, x.3.0))
operation_fits operation_word.Ack key (o ∷ l ∷ g ∷ []) op all x = subst (OpFits key) (sym x.6) (refl, (x.3.0, x.4.0))
operation_fits operation_word.Rehydrate key [] op all x = subst (OpFits key) (sym x) (refl, tt)
operation_fits operation_word.Entries key (g ∷ ws) op all x = subst (OpFits key) (sym x.5) (refl, (entries_fit ws x.1 all.1 x.4, (λ e. no_entries ws x.1 (x.3 e) x.4)))
operation_fits operation_word.AckDehydrate key (g ∷ []) op all x = subst (OpFits key) (sym x.2) (refl, tt)
operation_fits c key ws op all x = absurd x

plan_key_fits : (own : Bool) (w : List ℕ) (key : Key) → IsKeyOf own w key → PlanKeyFits own key
plan_key_fits true w key is = is.1
plan_key_fits false w key is = (is.0, is.1)

line_fits : (m : Mode) (c : Command) (ws : List (List ℕ)) (e : Event) → is_foreign m c ≡ false → AllPlain ws → Follows c ws e → CanSpell m e
line_fits m (command.Bare c) ws e here all x = bare_fits m c ws e here x
line_fits m (command.OnPath c) (p ∷ []) e here all x = path_line_fits m c p e here all.0 x
line_fits m (command.OnNumber c) (w ∷ []) e here all x = number_line_fits m c w e here x
line_fits m (command.OnWord on_word.Close) (h ∷ []) e here all x = is_it m e _ x.2 (call_of m _ (key_fits h x.0 x.1))
line_fits m (command.OnWord on_word.Cancel) (h ∷ []) e here all x = is_it m e _ x.2 (call_of m _ (key_fits h x.0 x.1))
line_fits m (command.OnWord on_word.Tick) (w ∷ []) e here all x = is_it m e _ x.2 (call_of m _ (x.1.0.0, x.1.1))
line_fits m (command.OnThree on_three.Read) (h ∷ o ∷ l ∷ []) e here all x = is_it m e _ x.6 (call_of m _ (key_fits h x.0 x.3, x.4.0, x.5.0))
line_fits m (command.OnThree on_three.Get) (p ∷ o ∷ l ∷ []) e here all x = is_it m e _ x.6 (call_of m _ (path_fits p x.0 all.0 x.3, x.4.0, x.5.0))
line_fits m (command.OnThree on_three.Write) (h ∷ o ∷ d ∷ []) e here all x = is_it m e _ x.6 (call_of m _ (key_fits h x.0 x.3, x.4.0, data_fits d x.2 x.5))
line_fits m (command.OnTwo on_two.Size) (h ∷ n ∷ []) e here all x = is_it m e _ x.4 (call_of m _ (key_fits h x.0 x.2, x.3.0))
line_fits m (command.OnTwo on_two.Rename) (p ∷ q ∷ []) e here all x = is_it m e _ x.4 (call_of m _ (path_fits p x.0 all.0 x.2, path_fits q x.1 all.1.0 x.3))
line_fits m (command.Long long.Pin) (p ∷ s ∷ r) e here all x = is_it m e _ x.6 (call_of m _ (path_fits p x.0 all.0 x.3))
line_fits m (command.Other other.Dehydrate) (p ∷ []) e here all x = is_it m e _ x.2 (call_of m _ (path_fits p x.0 all.0 x.1, tt))
line_fits m (command.Other other.Dehydrate) (p ∷ o ∷ l ∷ []) e here all x = is_it m e _ x.6 (call_of m _ (path_fits p x.0 all.0 x.3, (x.4.0, x.5.0)))
line_fits m (command.OnTwo on_two.Ranges) (p ∷ c ∷ []) e here all x = is_it m e _ x.4 (call_of m _ (path_fits p x.0 all.0 x.2))
line_fits m (command.Long long.Policy) (h ∷ p ∷ ms) e here all x = is_it m e _ x.6 (call_of m _ tt)
line_fits m (command.OnTwo on_two.Keep) (p ∷ y ∷ []) e here all x = is_it m e _ x.4 (call_of m _ (path_fits p x.0 all.0 x.2))
line_fits m (command.Other other.Crash) (c ∷ []) e here all x = is_it m e _ x.2 (device_of m (device.Crash (kept x.0)) (kept_fits x.0))
  where
    kept_fits : (b : Bool) → ChoiceFits (kept b)
    kept_fits true = tt
    kept_fits false = tt
line_fits m (command.Other other.Crash) (c ∷ n ∷ []) e here all x = is_it m e _ x.3 (device_of m _ x.2.0)
line_fits m (command.Other other.Peer) (w ∷ ws) e here all x = peer_event_fits m x.0 ws e here all.1 x.2
line_fits m (command.OnWord on_word.Link) (l ∷ []) e here all x = is_it m e _ x.2 (engine_of m (command.OnWord on_word.Link) _ refl here tt)
line_fits m (command.Other other.Place) (p ∷ n ∷ i ∷ f) e here all x = is_it m e _ x.8 (provider_of m (command.Other other.Place) _ refl here (path_fits p x.0 all.0 x.4, x.5.0, x.6.0))
line_fits m (command.Long long.PlaceDir) (p ∷ i ∷ f) e here all x = is_it m e _ x.6 (provider_of m (command.Long long.PlaceDir) _ refl here (path_fits p x.0 all.0 x.3, x.4.0))
line_fits m (command.OnTwo on_two.Convert) (p ∷ i ∷ []) e here all x = is_it m e _ x.4 (provider_of m (command.OnTwo on_two.Convert) _ refl here (path_fits p x.0 all.0 x.2, x.3.0))
line_fits m (command.Other other.Update) (p ∷ i ∷ []) e here all x = is_it m e _ x.4 (provider_of m (command.Other other.Update) _ refl here (path_fits p x.0 all.0 x.2, x.3.0, tt))
line_fits m (command.Other other.Update) (p ∷ i ∷ n ∷ []) e here all x = is_it m e _ x.6 (provider_of m (command.Other other.Update) _ refl here (path_fits p x.0 all.0 x.3, x.4.0, x.5.0))
line_fits m (command.OnTwo on_two.Mark) (p ∷ u ∷ []) e here all x = is_it m e _ x.4 (provider_of m (command.OnTwo on_two.Mark) _ refl here (path_fits p x.0 all.0 x.2, x.3.0, x.3.1))
line_fits m (command.Long long.Do) (w ∷ k ∷ ws) e here all x =
    let op = x.4.0 in
    let fits = operation_fits x.0 x.1 ws op all.1.1 x.4.1 in
    is_it m e _ x.4.2 (provider_of m (command.Long long.Do) _ refl here (subst KeyFits (sym fits.0) (key_fits k x.1 x.3), fits.1))
line_fits m (command.Long long.Plan) (w ∷ k ∷ ws) e here all x =
    let op = x.4.0 in
    let fits = operation_fits x.0 x.1.1 ws op all.1.1 x.4.1 in
    is_it m e _ x.4.2 (provider_of m (command.Long long.Plan) _ refl here (subst (PlanKeyFits x.1.0) (sym fits.0) (plan_key_fits x.1.0 k x.1.1 x.3), fits.1))
line_fits m c ws e here all x = absurd x

words_fit : (m : Mode) (ws : List (List ℕ)) (e : Event) → AllPlain ws → AreWords m ws e → CanSpell m e
words_fit m [] e all x = absurd x
words_fit m (w ∷ ws) e all x = line_fits m x.0 ws e x.2 all.1 x.3

pub spelled_fits : (m : Mode) (line : List ℕ) (e : Event) → Spells m line e → CanSpell m e
spelled_fits m line e h = words_fit m (words_of line) e (parts_plain (λ b. b == 32) line h.plain) h.words

all_of_lines : (m : Mode) (lines : List (List ℕ)) (es : List Event) → AreEvents m lines es → IsTrue (list_all (is_of m) es)
all_of_lines m [] [] h = refl
all_of_lines m [] (e ∷ es) h = absurd h
all_of_lines m (l ∷ ls) [] h = absurd h
all_of_lines m (l ∷ ls) (e ∷ es) h = rw ((spelled_fits m l e h.0).0, all_of_lines m ls es h.1) refl

-- each event of a script is one of its mode
pub all_of : (m : Mode) (text : List ℕ) (es : List Event) → IsScript m text es → IsTrue (list_all (is_of m) es)
all_of m text es h = all_of_lines m (event_lines (lines_of text)) es h.0
