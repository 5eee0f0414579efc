-- Each fixed word is the name of one thing.
use Rattle.std.proofs.Common.{◌≡◌, ℕ, Bool, true, false, cond, List, [], ◌∷◌, length, refl, sym, ap, ◌∙◌, arith}
use Rattle.std.specs.Prelude.{◌&&◌, Option, Some, None, codes}
use Rattle.std.specs.List.{list_any}
use Rattle.std.specs.Str.{bytes_eq}
use Rattle.cf_base.specs.declared.items.Pin.{Pin}
use Rattle.cf_base.specs.declared.items.Pin.TheVariants as pin
use Rattle.cf_base.specs.declared.items.Reach.{Reach}
use Rattle.cf_base.specs.declared.items.Reach.TheVariants as reach
use Rattle.cf_base.specs.declared.policies.Class.{Class}
use Rattle.cf_base.specs.declared.policies.Class.TheVariants as class
use Rattle.cf_base.specs.declared.policies.Hydration.{Hydration}
use Rattle.cf_base.specs.declared.policies.Hydration.TheVariants as hydration
use Rattle.cf_base.specs.declared.policies.Population.{Population}
use Rattle.cf_base.specs.declared.policies.Population.TheVariants as population
use Rattle.cf_script_words.specs.declared.commands.PeerCommand.{PeerCommand}
use Rattle.cf_script_words.specs.declared.commands.PeerCommand.TheVariants as peer
use Rattle.cf_script_words.specs.declared.commands.OperationCommand.{OperationCommand}
use Rattle.cf_script_words.specs.declared.commands.OperationCommand.TheVariants as operation
use Rattle.cf_script_words.specs.Names.{peer_name, operation_name, pin_name, reach_words, class_name, hydration_name, population_name, modifier_words, flag_words, yes_name, good_name, link_name, kept_name, entry_kind}

abbrev words_eq : List (List ℕ) → List (List ℕ) → Bool
words_eq [] [] = true
words_eq (v ∷ vs) (w ∷ ws) = bytes_eq v w && words_eq vs ws
words_eq [] (w ∷ ws) = false
words_eq (v ∷ vs) [] = false

abbrev peer_all : List PeerCommand
peer_all = peer.Put ∷ peer.Mkdir ∷ peer.Move ∷ peer.Remove ∷ peer.Stat ∷ peer.Keep ∷ []

abbrev peer_found : List ℕ → List PeerCommand → Option PeerCommand
peer_found w [] = None
peer_found w (x ∷ xs) = cond (bytes_eq (peer_name x) w) (Some x) (peer_found w xs)

peer_again : (x : PeerCommand) → peer_found (peer_name x) peer_all ≡ Some x
peer_again peer.Put = refl
peer_again peer.Mkdir = refl
peer_again peer.Move = refl
peer_again peer.Remove = refl
peer_again peer.Stat = refl
peer_again peer.Keep = refl

pub peer_once : (w : List ℕ) (x y : PeerCommand) → w ≡ peer_name x → w ≡ peer_name y → x ≡ y
peer_once w x y a b = let h : Some x ≡ Some y = sym (peer_again x) ∙ ap (λ v. peer_found v peer_all) (sym a ∙ b) ∙ peer_again y in cc

abbrev operation_all : List OperationCommand
operation_all = operation.Transfer ∷ operation.Fail ∷ operation.Retrieve ∷ operation.Ack ∷ operation.Rehydrate ∷ operation.Entries ∷ operation.AckDehydrate ∷ []

abbrev operation_found : List ℕ → List OperationCommand → Option OperationCommand
operation_found w [] = None
operation_found w (x ∷ xs) = cond (bytes_eq (operation_name x) w) (Some x) (operation_found w xs)

operation_again : (x : OperationCommand) → operation_found (operation_name x) operation_all ≡ Some x
operation_again operation.Transfer = refl
operation_again operation.Fail = refl
operation_again operation.Retrieve = refl
operation_again operation.Ack = refl
operation_again operation.Rehydrate = refl
operation_again operation.Entries = refl
operation_again operation.AckDehydrate = refl

pub operation_once : (w : List ℕ) (x y : OperationCommand) → w ≡ operation_name x → w ≡ operation_name y → x ≡ y
operation_once w x y a b = let h : Some x ≡ Some y = sym (operation_again x) ∙ ap (λ v. operation_found v operation_all) (sym a ∙ b) ∙ operation_again y in cc

abbrev pin_all : List Pin
pin_all = pin.Unspecified ∷ pin.Pinned ∷ pin.Unpinned ∷ pin.Excluded ∷ pin.Inherit ∷ []

abbrev pin_found : List ℕ → List Pin → Option Pin
pin_found w [] = None
pin_found w (x ∷ xs) = cond (bytes_eq (pin_name x) w) (Some x) (pin_found w xs)

pin_again : (x : Pin) → pin_found (pin_name x) pin_all ≡ Some x
pin_again pin.Unspecified = refl
pin_again pin.Pinned = refl
pin_again pin.Unpinned = refl
pin_again pin.Excluded = refl
pin_again pin.Inherit = refl

pub pin_once : (w : List ℕ) (x y : Pin) → w ≡ pin_name x → w ≡ pin_name y → x ≡ y
pin_once w x y a b = let h : Some x ≡ Some y = sym (pin_again x) ∙ ap (λ v. pin_found v pin_all) (sym a ∙ b) ∙ pin_again y in cc

abbrev reach_all : List Reach
reach_all = reach.One ∷ reach.Recurse ∷ reach.RecurseOnly ∷ []

abbrev reach_found : List (List ℕ) → List Reach → Option Reach
reach_found w [] = None
reach_found w (x ∷ xs) = cond (words_eq (reach_words x) w) (Some x) (reach_found w xs)

reach_again : (x : Reach) → reach_found (reach_words x) reach_all ≡ Some x
reach_again reach.One = refl
reach_again reach.Recurse = refl
reach_again reach.RecurseOnly = refl

pub reach_once : (w : List (List ℕ)) (x y : Reach) → w ≡ reach_words x → w ≡ reach_words y → x ≡ y
reach_once w x y a b = let h : Some x ≡ Some y = sym (reach_again x) ∙ ap (λ v. reach_found v reach_all) (sym a ∙ b) ∙ reach_again y in cc

abbrev class_all : List Class
class_all = class.OnDisk ∷ class.Validated ∷ class.Modified ∷ []

abbrev class_found : List ℕ → List Class → Option Class
class_found w [] = None
class_found w (x ∷ xs) = cond (bytes_eq (class_name x) w) (Some x) (class_found w xs)

class_again : (x : Class) → class_found (class_name x) class_all ≡ Some x
class_again class.OnDisk = refl
class_again class.Validated = refl
class_again class.Modified = refl

pub class_once : (w : List ℕ) (x y : Class) → w ≡ class_name x → w ≡ class_name y → x ≡ y
class_once w x y a b = let h : Some x ≡ Some y = sym (class_again x) ∙ ap (λ v. class_found v class_all) (sym a ∙ b) ∙ class_again y in cc

abbrev hydration_all : List Hydration
hydration_all = hydration.Partial ∷ hydration.Progressive ∷ hydration.Full ∷ hydration.AlwaysFull ∷ []

abbrev hydration_found : List ℕ → List Hydration → Option Hydration
hydration_found w [] = None
hydration_found w (x ∷ xs) = cond (bytes_eq (hydration_name x) w) (Some x) (hydration_found w xs)

hydration_again : (x : Hydration) → hydration_found (hydration_name x) hydration_all ≡ Some x
hydration_again hydration.Partial = refl
hydration_again hydration.Progressive = refl
hydration_again hydration.Full = refl
hydration_again hydration.AlwaysFull = refl

pub hydration_once : (w : List ℕ) (x y : Hydration) → w ≡ hydration_name x → w ≡ hydration_name y → x ≡ y
hydration_once w x y a b = let h : Some x ≡ Some y = sym (hydration_again x) ∙ ap (λ v. hydration_found v hydration_all) (sym a ∙ b) ∙ hydration_again y in cc

abbrev population_all : List Population
population_all = population.Partial ∷ population.Full ∷ population.AlwaysFull ∷ []

abbrev population_found : List ℕ → List Population → Option Population
population_found w [] = None
population_found w (x ∷ xs) = cond (bytes_eq (population_name x) w) (Some x) (population_found w xs)

population_again : (x : Population) → population_found (population_name x) population_all ≡ Some x
population_again population.Partial = refl
population_again population.Full = refl
population_again population.AlwaysFull = refl

pub population_once : (w : List ℕ) (x y : Population) → w ≡ population_name x → w ≡ population_name y → x ≡ y
population_once w x y a b = let h : Some x ≡ Some y = sym (population_again x) ∙ ap (λ v. population_found v population_all) (sym a ∙ b) ∙ population_again y in cc

abbrev yes_all : List Bool
yes_all = true ∷ false ∷ []

abbrev yes_found : List ℕ → List Bool → Option Bool
yes_found w [] = None
yes_found w (x ∷ xs) = cond (bytes_eq (yes_name x) w) (Some x) (yes_found w xs)

yes_again : (x : Bool) → yes_found (yes_name x) yes_all ≡ Some x
yes_again true = refl
yes_again false = refl

pub yes_once : (w : List ℕ) (x y : Bool) → w ≡ yes_name x → w ≡ yes_name y → x ≡ y
yes_once w x y a b = let h : Some x ≡ Some y = sym (yes_again x) ∙ ap (λ v. yes_found v yes_all) (sym a ∙ b) ∙ yes_again y in cc

abbrev good_all : List Bool
good_all = true ∷ false ∷ []

abbrev good_found : List ℕ → List Bool → Option Bool
good_found w [] = None
good_found w (x ∷ xs) = cond (bytes_eq (good_name x) w) (Some x) (good_found w xs)

good_again : (x : Bool) → good_found (good_name x) good_all ≡ Some x
good_again true = refl
good_again false = refl

pub good_once : (w : List ℕ) (x y : Bool) → w ≡ good_name x → w ≡ good_name y → x ≡ y
good_once w x y a b = let h : Some x ≡ Some y = sym (good_again x) ∙ ap (λ v. good_found v good_all) (sym a ∙ b) ∙ good_again y in cc

abbrev link_all : List Bool
link_all = true ∷ false ∷ []

abbrev link_found : List ℕ → List Bool → Option Bool
link_found w [] = None
link_found w (x ∷ xs) = cond (bytes_eq (link_name x) w) (Some x) (link_found w xs)

link_again : (x : Bool) → link_found (link_name x) link_all ≡ Some x
link_again true = refl
link_again false = refl

pub link_once : (w : List ℕ) (x y : Bool) → w ≡ link_name x → w ≡ link_name y → x ≡ y
link_once w x y a b = let h : Some x ≡ Some y = sym (link_again x) ∙ ap (λ v. link_found v link_all) (sym a ∙ b) ∙ link_again y in cc

abbrev kept_all : List Bool
kept_all = true ∷ false ∷ []

abbrev kept_found : List ℕ → List Bool → Option Bool
kept_found w [] = None
kept_found w (x ∷ xs) = cond (bytes_eq (kept_name x) w) (Some x) (kept_found w xs)

kept_again : (x : Bool) → kept_found (kept_name x) kept_all ≡ Some x
kept_again true = refl
kept_again false = refl

pub kept_once : (w : List ℕ) (x y : Bool) → w ≡ kept_name x → w ≡ kept_name y → x ≡ y
kept_once w x y a b = let h : Some x ≡ Some y = sym (kept_again x) ∙ ap (λ v. kept_found v kept_all) (sym a ∙ b) ∙ kept_again y in cc

abbrev kind_all : List Bool
kind_all = true ∷ false ∷ []

abbrev kind_found : List ℕ → List Bool → Option Bool
kind_found w [] = None
kind_found w (x ∷ xs) = cond (bytes_eq (entry_kind x) w) (Some x) (kind_found w xs)

kind_again : (x : Bool) → kind_found (entry_kind x) kind_all ≡ Some x
kind_again true = refl
kind_again false = refl

pub kind_once : (w : List ℕ) (x y : Bool) → w ≡ entry_kind x → w ≡ entry_kind y → x ≡ y
kind_once w x y a b = let h : Some x ≡ Some y = sym (kind_again x) ∙ ap (λ v. kind_found v kind_all) (sym a ∙ b) ∙ kind_again y in cc

pub in_sync_once : (ws : List (List ℕ)) (x y : Bool) → ws ≡ flag_words (codes "insync") x → ws ≡ flag_words (codes "insync") y → x ≡ y
in_sync_once ws true true a b = refl
in_sync_once ws false false a b = refl
in_sync_once ws true false a b = absurd (let n : 1 ≡ 0 = ap length (sym a ∙ b) in omega arith)
in_sync_once ws false true a b = absurd (let n : 0 ≡ 1 = ap length (sym a ∙ b) in omega arith)

abbrev has : List ℕ → List (List ℕ) → Bool
has w ws = list_any (λ v. bytes_eq v w) ws

abbrev modifiers_in : List (List ℕ) → Bool × Bool × Bool
modifiers_in ws = (has (codes "validate") ws, has (codes "restart") ws, has (codes "auto") ws)

modifiers_again : (a b c : Bool) → ◌≡◌ {A = Bool × Bool × Bool} (modifiers_in (modifier_words a b c)) (a, b, c)
modifiers_again true true true = refl
modifiers_again true true false = refl
modifiers_again true false true = refl
modifiers_again true false false = refl
modifiers_again false true true = refl
modifiers_again false true false = refl
modifiers_again false false true = refl
modifiers_again false false false = refl

pub modifiers_once : (ws : List (List ℕ)) (x y : Bool × Bool × Bool) → ws ≡ modifier_words x.0 x.1 x.2 → ws ≡ modifier_words y.0 y.1 y.2 → x ≡ y
modifiers_once ws x y a b = sym (modifiers_again x.0 x.1 x.2) ∙ ap modifiers_in (sym a ∙ b) ∙ modifiers_again y.0 y.1 y.2
