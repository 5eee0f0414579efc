-- The words after the first one spell one event.
use Rattle.std.proofs.Common.{◌≡◌, ℕ, Bool, true, false, List, [], ◌∷◌, refl, sym, subst, ◌∙◌}
use Rattle.cf_base.specs.declared.ids.Key.{Key}
use Rattle.cf_base.specs.declared.operations.NewItem.{NewItem}
use Rattle.cf_base.specs.declared.operations.Operation.{Operation}
use Rattle.cf_base.specs.declared.events.Event.{Event}
use Rattle.cf_script_words.specs.declared.commands.Command.{Command}
use Rattle.cf_script_words.specs.declared.commands.Command.TheVariants as command
use Rattle.cf_script_words.specs.declared.commands.BareCommand.{BareCommand}
use Rattle.cf_script_words.specs.declared.commands.PathCommand.{PathCommand}
use Rattle.cf_script_words.specs.declared.commands.NumberCommand.{NumberCommand}
use Rattle.cf_script_words.specs.declared.commands.WordCommand.{WordCommand}
use Rattle.cf_script_words.specs.declared.commands.WordCommand.TheVariants as on_word
use Rattle.cf_script_words.specs.declared.commands.TwoWordCommand.{TwoWordCommand}
use Rattle.cf_script_words.specs.declared.commands.TwoWordCommand.TheVariants as on_two
use Rattle.cf_script_words.specs.declared.commands.ThreeWordCommand.{ThreeWordCommand}
use Rattle.cf_script_words.specs.declared.commands.ThreeWordCommand.TheVariants as on_three
use Rattle.cf_script_words.specs.declared.commands.LongCommand.{LongCommand}
use Rattle.cf_script_words.specs.declared.commands.LongCommand.TheVariants as long
use Rattle.cf_script_words.specs.declared.commands.OtherCommand.{OtherCommand}
use Rattle.cf_script_words.specs.declared.commands.OtherCommand.TheVariants as other
use Rattle.cf_script_words.specs.declared.commands.PeerCommand.{PeerCommand}
use Rattle.cf_script_words.specs.declared.commands.PeerCommand.TheVariants as peer
use Rattle.cf_script_words.specs.declared.commands.OperationCommand.{OperationCommand}
use Rattle.cf_script_words.specs.declared.commands.OperationCommand.TheVariants as operation
use Rattle.cf_script_words.specs.Words.{IsNumber, IsPositive, IsPath, escape_byte}
use Rattle.cf_script.specs.Forms.{IsBareLine, IsPathLine, IsNumberLine, IsClose, IsCancel, IsTick, IsReadLine, IsGet, IsWrite, IsSize, IsRename, IsPinLine, IsDehydrate, IsRanges, IsPolicyLine, IsKeep, IsCrash, IsLink, IsPeerWord, IsPeerPair, IsPeerEvent, IsPeer, IsPlace, IsPlaceDir, IsConvert, IsUpdate, IsMark, IsDone, IsDo, IsPlanned, IsPlan, Follows, IsWordLine, IsTwoWordLine, IsThreeWordLine, IsLongLine, IsOtherLine}
use Rattle.cf_script_words.specs.Operations.{IsOperation}
use Rattle.cf_script_words.specs.Entries.{IsEntryName, IsEntryRest, AreFields, AreEntries, escape_name_byte, fields_of}
use Rattle.cf_script_words.proofs.NumberMeans.{number_once}
use Rattle.cf_script_words.proofs.DataMeans.{plain_once, data_once}
use Rattle.cf_script_words.proofs.PathMeans.{written_once, paths_apart, names_apart}
use Rattle.cf_script_words.proofs.KeyOnce.{key_once, usn_once}
use Rattle.cf_script.proofs.PlanKeys.{key_of_once}
use Rattle.cf_script_words.proofs.FixedWords.{peer_once, operation_once, pin_once, reach_once, class_once, hydration_once, population_once, yes_once, good_once, link_once, kept_once, kind_once, in_sync_once, modifiers_once}

path_once : (w p q : List ℕ) → IsPath w p → IsPath w q → p ≡ q
path_once w p q a b = written_once escape_byte paths_apart p q (sym a.2 ∙ b.2)

name_once : (w p q : List ℕ) → IsEntryName w p → IsEntryName w q → p ≡ q
name_once w p q a b = written_once escape_name_byte names_apart p q (sym a.1 ∙ b.1)

num_once : (w : List ℕ) (m n : ℕ) → IsNumber w m → IsNumber w n → m ≡ n
num_once w m n a b = number_once w n m b a

positive_once : (w : List ℕ) (m n : ℕ) → IsPositive w m → IsPositive w n → m ≡ n
positive_once w m n a b = num_once w m n a.0 b.0

bare_once : (c : BareCommand) (ws : List (List ℕ)) (e f : Event) → IsBareLine c ws e → IsBareLine c ws f → e ≡ f
bare_once c [] e f x y = x ∙ sym y
bare_once c (w ∷ ws) e f x y = absurd x

on_path_once : (c : PathCommand) (p : List ℕ) (e f : Event) → IsPathLine c p e → IsPathLine c p f → e ≡ f
on_path_once c p e f x y = let h0 = path_once p x.0 y.0 x.1 y.1 in cc (x.2, y.2)

on_number_once : (c : NumberCommand) (w : List ℕ) (e f : Event) → IsNumberLine c w e → IsNumberLine c w f → e ≡ f
on_number_once c w e f x y = let h0 = num_once w x.0 y.0 x.1 y.1 in cc (x.2, y.2)

close_once : (h : List ℕ) (e f : Event) → IsClose h e → IsClose h f → e ≡ f
close_once h e f x y = let h0 = key_once h x.0 y.0 x.1 y.1 in cc (x.2, y.2)

cancel_once : (h : List ℕ) (e f : Event) → IsCancel h e → IsCancel h f → e ≡ f
cancel_once h e f x y = let h0 = key_once h x.0 y.0 x.1 y.1 in cc (x.2, y.2)

tick_once : (w : List ℕ) (e f : Event) → IsTick w e → IsTick w f → e ≡ f
tick_once w e f x y = let h0 = positive_once w x.0 y.0 x.1 y.1 in cc (x.2, y.2)

read_once : (h o l : List ℕ) (e f : Event) → IsReadLine h o l e → IsReadLine h o l f → e ≡ f
read_once h o l e f x y = let h0 = key_once h x.0 y.0 x.3 y.3 in let h1 = num_once o x.1 y.1 x.4 y.4 in let h2 = num_once l x.2 y.2 x.5 y.5 in cc (x.6, y.6)

get_once : (p o l : List ℕ) (e f : Event) → IsGet p o l e → IsGet p o l f → e ≡ f
get_once p o l e f x y = let h0 = path_once p x.0 y.0 x.3 y.3 in let h1 = num_once o x.1 y.1 x.4 y.4 in let h2 = num_once l x.2 y.2 x.5 y.5 in cc (x.6, y.6)

write_once : (h o d : List ℕ) (e f : Event) → IsWrite h o d e → IsWrite h o d f → e ≡ f
write_once h o d e f x y = let h0 = key_once h x.0 y.0 x.3 y.3 in let h1 = num_once o x.1 y.1 x.4 y.4 in let h2 = data_once d x.2 y.2 x.5 y.5 in cc (x.6, y.6)

size_once : (h n : List ℕ) (e f : Event) → IsSize h n e → IsSize h n f → e ≡ f
size_once h n e f x y = let h0 = key_once h x.0 y.0 x.2 y.2 in let h1 = num_once n x.1 y.1 x.3 y.3 in cc (x.4, y.4)

rename_once : (p q : List ℕ) (e f : Event) → IsRename p q e → IsRename p q f → e ≡ f
rename_once p q e f x y = let h0 = path_once p x.0 y.0 x.2 y.2 in let h1 = path_once q x.1 y.1 x.3 y.3 in cc (x.4, y.4)

pin_line_once : (p s : List ℕ) (r : List (List ℕ)) (e f : Event) → IsPinLine p s r e → IsPinLine p s r f → e ≡ f
pin_line_once p s r e f x y = let h0 = path_once p x.0 y.0 x.3 y.3 in let h1 = pin_once s x.1 y.1 x.4 y.4 in let h2 = reach_once r x.2 y.2 x.5 y.5 in cc (x.6, y.6)

dehydrate_once : (ws : List (List ℕ)) (e f : Event) → IsDehydrate ws e → IsDehydrate ws f → e ≡ f
dehydrate_once (p ∷ []) e f x y = let h0 = path_once p x.0 y.0 x.1 y.1 in cc (x.2, y.2)
dehydrate_once (p ∷ o ∷ l ∷ []) e f x y = let h0 = path_once p x.0 y.0 x.3 y.3 in let h1 = num_once o x.1 y.1 x.4 y.4 in let h2 = num_once l x.2 y.2 x.5 y.5 in cc (x.6, y.6)
dehydrate_once ws e f x y = absurd x

ranges_once : (p c : List ℕ) (e f : Event) → IsRanges p c e → IsRanges p c f → e ≡ f
ranges_once p c e f x y = let h0 = path_once p x.0 y.0 x.2 y.2 in let h1 = class_once c x.1 y.1 x.3 y.3 in cc (x.4, y.4)

policy_once : (h p : List ℕ) (ms : List (List ℕ)) (e f : Event) → IsPolicyLine h p ms e → IsPolicyLine h p ms f → e ≡ f
policy_once h p ms e f x y = let h0 = hydration_once h x.0 y.0 x.3 y.3 in let h1 = population_once p x.1 y.1 x.4 y.4 in let h2 = modifiers_once ms x.2 y.2 x.5 y.5 in cc (x.6, y.6)

keep_once : (p b : List ℕ) (e f : Event) → IsKeep p b e → IsKeep p b f → e ≡ f
keep_once p b e f x y = let h0 = path_once p x.0 y.0 x.2 y.2 in let h1 = yes_once b x.1 y.1 x.3 y.3 in cc (x.4, y.4)

crash_once : (ws : List (List ℕ)) (e f : Event) → IsCrash ws e → IsCrash ws f → e ≡ f
crash_once (c ∷ []) e f x y = let h0 = kept_once c x.0 y.0 x.1 y.1 in cc (x.2, y.2)
crash_once (c ∷ n ∷ []) e f x y = let h0 = num_once n x.0 y.0 x.2 y.2 in cc (x.3, y.3)
crash_once ws e f x y = absurd x

link_line_once : (l : List ℕ) (e f : Event) → IsLink l e → IsLink l f → e ≡ f
link_line_once l e f x y = let h0 = link_once l x.0 y.0 x.1 y.1 in cc (x.2, y.2)

peer_word_once : (c : PeerCommand) (p : List ℕ) (e f : Event) → IsPeerWord c p e → IsPeerWord c p f → e ≡ f
peer_word_once peer.Mkdir p e f x y = let h0 = path_once p x.0 y.0 x.1 y.1 in cc (x.2, y.2)
peer_word_once peer.Remove p e f x y = let h0 = path_once p x.0 y.0 x.1 y.1 in cc (x.2, y.2)
peer_word_once peer.Stat p e f x y = let h0 = path_once p x.0 y.0 x.1 y.1 in cc (x.2, y.2)
peer_word_once peer.Keep n e f x y = let h0 = positive_once n x.0 y.0 x.1 y.1 in cc (x.2, y.2)
peer_word_once c p e f x y = absurd x

peer_pair_once : (c : PeerCommand) (p d : List ℕ) (e f : Event) → IsPeerPair c p d e → IsPeerPair c p d f → e ≡ f
peer_pair_once peer.Put p d e f x y = let h0 = path_once p x.0 y.0 x.2 y.2 in let h1 = data_once d x.1 y.1 x.3 y.3 in cc (x.4, y.4)
peer_pair_once peer.Move p q e f x y = let h0 = path_once p x.0 y.0 x.2 y.2 in let h1 = path_once q x.1 y.1 x.3 y.3 in cc (x.4, y.4)
peer_pair_once c p d e f x y = absurd x

peer_event_once : (c : PeerCommand) (ws : List (List ℕ)) (e f : Event) → IsPeerEvent c ws e → IsPeerEvent c ws f → e ≡ f
peer_event_once c (p ∷ []) e f x y = peer_word_once c p e f x y
peer_event_once c (p ∷ d ∷ []) e f x y = peer_pair_once c p d e f x y
peer_event_once c ws e f x y = absurd x

peer_line_once : (ws : List (List ℕ)) (e f : Event) → IsPeer ws e → IsPeer ws f → e ≡ f
peer_line_once [] e f x y = absurd x
peer_line_once (w ∷ ws) e f x y =
    let same : x.0 ≡ y.0 = peer_once w x.0 y.0 x.1 y.1 in
    peer_event_once y.0 ws e f (subst (λ c. IsPeerEvent c ws e) same x.2) y.2

place_once : (ws : List (List ℕ)) (e f : Event) → IsPlace ws e → IsPlace ws f → e ≡ f
place_once (p ∷ n ∷ i ∷ f') e f x y = let h0 = path_once p x.0 y.0 x.4 y.4 in let h1 = num_once n x.1 y.1 x.5 y.5 in let h2 = plain_once i x.2 y.2 x.6 y.6 in let h3 = in_sync_once f' x.3 y.3 x.7 y.7 in cc (x.8, y.8)
place_once ws e f x y = absurd x

place_dir_once : (p i : List ℕ) (f' : List (List ℕ)) (e f : Event) → IsPlaceDir p i f' e → IsPlaceDir p i f' f → e ≡ f
place_dir_once p i f' e f x y = let h0 = path_once p x.0 y.0 x.3 y.3 in let h1 = plain_once i x.1 y.1 x.4 y.4 in let h2 = in_sync_once f' x.2 y.2 x.5 y.5 in cc (x.6, y.6)

convert_once : (p i : List ℕ) (e f : Event) → IsConvert p i e → IsConvert p i f → e ≡ f
convert_once p i e f x y = let h0 = path_once p x.0 y.0 x.2 y.2 in let h1 = plain_once i x.1 y.1 x.3 y.3 in cc (x.4, y.4)

update_once : (ws : List (List ℕ)) (e f : Event) → IsUpdate ws e → IsUpdate ws f → e ≡ f
update_once (p ∷ i ∷ []) e f x y = let h0 = path_once p x.0 y.0 x.2 y.2 in let h1 = plain_once i x.1 y.1 x.3 y.3 in cc (x.4, y.4)
update_once (p ∷ i ∷ n ∷ []) e f x y = let h0 = path_once p x.0 y.0 x.3 y.3 in let h1 = plain_once i x.1 y.1 x.4 y.4 in let h2 = num_once n x.2 y.2 x.5 y.5 in cc (x.6, y.6)
update_once ws e f x y = absurd x

mark_once : (p u : List ℕ) (e f : Event) → IsMark p u e → IsMark p u f → e ≡ f
mark_once p u e f x y = let h0 = path_once p x.0 y.0 x.2 y.2 in let h1 = usn_once u x.1 y.1 x.3 y.3 in cc (x.4, y.4)

entry_rest_once : (dir : Bool) (name : List ℕ) (ws : List (List ℕ)) (a b : NewItem) → IsEntryRest dir name ws a → IsEntryRest dir name ws b → a ≡ b
entry_rest_once false name (n ∷ i ∷ f) a b x y = let h0 = num_once n x.0 y.0 x.3 y.3 in let h1 = plain_once i x.1 y.1 x.4 y.4 in let h2 = in_sync_once f x.2 y.2 x.5 y.5 in cc (x.6, y.6)
entry_rest_once true name (i ∷ f) a b x y = let h1 = plain_once i x.0 y.0 x.2 y.2 in let h2 = in_sync_once f x.1 y.1 x.3 y.3 in cc (x.4, y.4)
entry_rest_once dir name ws a b x y = absurd x

fields_once : (ws : List (List ℕ)) (a b : NewItem) → AreFields ws a → AreFields ws b → a ≡ b
fields_once (w ∷ k ∷ ws) a b x y =
    let name : x.0 ≡ y.0 = name_once w x.0 y.0 x.2 y.2 in
    let dir : x.1 ≡ y.1 = kind_once k x.1 y.1 x.3 y.3 in
    entry_rest_once y.1 y.0 ws a b (subst (λ d. IsEntryRest d y.0 ws a) dir (subst (λ n. IsEntryRest x.1 n ws a) name x.4)) y.4
fields_once [] a b x y = absurd x
fields_once (w ∷ []) a b x y = absurd x

entries_once : (ws : List (List ℕ)) (a b : List NewItem) → AreEntries ws a → AreEntries ws b → a ≡ b
entries_once [] [] [] x y = refl
entries_once [] [] (b ∷ bs) x y = absurd y
entries_once [] (a ∷ as') bs x y = absurd x
entries_once (w ∷ ws) [] bs x y = absurd x
entries_once (w ∷ ws) (a ∷ as') [] x y = absurd y
entries_once (w ∷ ws) (a ∷ as') (b ∷ bs) x y = let one = fields_once (fields_of w) a b x.0 y.0 in let rest = entries_once ws as' bs x.1 y.1 in cc

operation_line_once : (c : OperationCommand) (key : Key) (ws : List (List ℕ)) (a b : Operation) → IsOperation c key ws a → IsOperation c key ws b → a ≡ b
operation_line_once operation.Transfer key (o ∷ d ∷ []) a b x y = let h0 = num_once o x.0 y.0 x.2 y.2 in let h1 = data_once d x.1 y.1 x.3 y.3 in cc (x.4, y.4)
operation_line_once operation.Fail key (o ∷ l ∷ s ∷ []) a b x y = let h0 = num_once o x.0 y.0 x.3 y.3 in let h1 = num_once l x.1 y.1 x.4 y.4 in let h2 = num_once s x.2 y.2 x.5 y.5 in cc (x.6, y.6)
operation_line_once operation.Retrieve key (o ∷ l ∷ []) a b x y = let h0 = num_once o x.0 y.0 x.2 y.2 in let h1 = num_once l x.1 y.1 x.3 y.3 in cc (x.4, y.4)
operation_line_once operation.Ack key (o ∷ l ∷ g ∷ []) a b x y = let h0 = num_once o x.0 y.0 x.3 y.3 in let h1 = num_once l x.1 y.1 x.4 y.4 in let h2 = good_once g x.2 y.2 x.5 y.5 in cc (x.6, y.6)
operation_line_once operation.Rehydrate key [] a b x y = x ∙ sym y
operation_line_once operation.Entries key (g ∷ ws) a b x y = let h0 = good_once g x.0 y.0 x.2 y.2 in let h1 = entries_once ws x.1 y.1 x.4 y.4 in cc (x.5, y.5)
operation_line_once operation.AckDehydrate key (g ∷ []) a b x y = let h0 = good_once g x.0 y.0 x.1 y.1 in cc (x.2, y.2)
operation_line_once c key ws a b x y = absurd x

done_once : (c : OperationCommand) (key : Key) (ws : List (List ℕ)) (e f : Event) → IsDone c key ws e → IsDone c key ws f → e ≡ f
done_once c key ws e f x y = let h0 = operation_line_once c key ws x.0 y.0 x.1 y.1 in cc (x.2, y.2)

do_once : (w k : List ℕ) (ws : List (List ℕ)) (e f : Event) → IsDo w k ws e → IsDo w k ws f → e ≡ f
do_once w k ws e f x y =
    let c : x.0 ≡ y.0 = operation_once w x.0 y.0 x.2 y.2 in
    let key : x.1 ≡ y.1 = key_once k x.1 y.1 x.3 y.3 in
    done_once y.0 y.1 ws e f (subst (λ c. IsDone c y.1 ws e) c (subst (λ k. IsDone x.0 k ws e) key x.4)) y.4

planned_once : (c : OperationCommand) (p : Bool × Key) (ws : List (List ℕ)) (e f : Event) → IsPlanned c p ws e → IsPlanned c p ws f → e ≡ f
planned_once c p ws e f x y = let h0 = operation_line_once c p.1 ws x.0 y.0 x.1 y.1 in cc (x.2, y.2)

plan_once : (w k : List ℕ) (ws : List (List ℕ)) (e f : Event) → IsPlan w k ws e → IsPlan w k ws f → e ≡ f
plan_once w k ws e f x y =
    let c : x.0 ≡ y.0 = operation_once w x.0 y.0 x.2 y.2 in
    let key : x.1 ≡ y.1 = key_of_once k x.1 y.1 x.3 y.3 in
    planned_once y.0 y.1 ws e f (subst (λ c. IsPlanned c y.1 ws e) c (subst (λ k. IsPlanned x.0 k ws e) key x.4)) y.4

word_line_once : (c : WordCommand) (w : List ℕ) (e f : Event) → IsWordLine c w e → IsWordLine c w f → e ≡ f
word_line_once on_word.Close w e f x y = close_once w e f x y
word_line_once on_word.Cancel w e f x y = cancel_once w e f x y
word_line_once on_word.Tick w e f x y = tick_once w e f x y
word_line_once on_word.Link w e f x y = link_line_once w e f x y

two_word_line_once : (c : TwoWordCommand) (v w : List ℕ) (e f : Event) → IsTwoWordLine c v w e → IsTwoWordLine c v w f → e ≡ f
two_word_line_once on_two.Size v w e f x y = size_once v w e f x y
two_word_line_once on_two.Rename v w e f x y = rename_once v w e f x y
two_word_line_once on_two.Ranges v w e f x y = ranges_once v w e f x y
two_word_line_once on_two.Keep v w e f x y = keep_once v w e f x y
two_word_line_once on_two.Convert v w e f x y = convert_once v w e f x y
two_word_line_once on_two.Mark v w e f x y = mark_once v w e f x y

three_word_line_once : (c : ThreeWordCommand) (u v w : List ℕ) (e f : Event) → IsThreeWordLine c u v w e → IsThreeWordLine c u v w f → e ≡ f
three_word_line_once on_three.Read u v w e f x y = read_once u v w e f x y
three_word_line_once on_three.Get u v w e f x y = get_once u v w e f x y
three_word_line_once on_three.Write u v w e f x y = write_once u v w e f x y

long_line_once : (c : LongCommand) (v w : List ℕ) (ws : List (List ℕ)) (e f : Event) → IsLongLine c v w ws e → IsLongLine c v w ws f → e ≡ f
long_line_once long.Pin v w ws e f x y = pin_line_once v w ws e f x y
long_line_once long.Policy v w ws e f x y = policy_once v w ws e f x y
long_line_once long.PlaceDir v w ws e f x y = place_dir_once v w ws e f x y
long_line_once long.Do v w ws e f x y = do_once v w ws e f x y
long_line_once long.Plan v w ws e f x y = plan_once v w ws e f x y

other_line_once : (c : OtherCommand) (ws : List (List ℕ)) (e f : Event) → IsOtherLine c ws e → IsOtherLine c ws f → e ≡ f
other_line_once other.Dehydrate ws e f x y = dehydrate_once ws e f x y
other_line_once other.Crash ws e f x y = crash_once ws e f x y
other_line_once other.Peer ws e f x y = peer_line_once ws e f x y
other_line_once other.Place ws e f x y = place_once ws e f x y
other_line_once other.Update ws e f x y = update_once ws e f x y

pub follows_once : (c : Command) (ws : List (List ℕ)) (e f : Event) → Follows c ws e → Follows c ws f → e ≡ f
follows_once (command.Bare c) ws e f x y = bare_once c ws e f x y
follows_once (command.OnPath c) (w ∷ []) e f x y = on_path_once c w e f x y
follows_once (command.OnNumber c) (w ∷ []) e f x y = on_number_once c w e f x y
follows_once (command.OnWord c) (w ∷ []) e f x y = word_line_once c w e f x y
follows_once (command.OnTwo c) (v ∷ w ∷ []) e f x y = two_word_line_once c v w e f x y
follows_once (command.OnThree c) (u ∷ v ∷ w ∷ []) e f x y = three_word_line_once c u v w e f x y
follows_once (command.Long c) (v ∷ w ∷ ws) e f x y = long_line_once c v w ws e f x y
follows_once (command.Other c) ws e f x y = other_line_once c ws e f x y
follows_once c ws e f x y = absurd x
