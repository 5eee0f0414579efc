-- A disk stands for one content.
use Rattle.std.proofs.Common.{◌≡◌, ◌≢◌, ℕ, ◌+◌, ◌^◌, ◌<◌, List, [], ◌∷◌, ◌++◌, length, take, drop, refl, sym, ◌∙◌, ap, subst, append_assoc}
use Rattle.std.specs.Int.{w32, to_be_bytes}
use Rattle.std.proofs.lemmas.List.{take_at, drop_at}
use Rattle.cf_codec.specs.declared.formats.Format.{Format}
use Rattle.cf_disk.specs.Disk.{part}
use Rattle.cf_journal.specs.declared.sides.Side.{Side}
use Rattle.cf_journal.specs.Format.{base, journal_at, journal_len, Spells}
use Rattle.cf_journal.specs.Content.{Content, Stands}
use Rattle.cf_journal.proofs.Reading.{one_length, head_is}
use Rattle.cf_journal.proofs.Choosing.{one_chosen}

record First (p : List ℕ) (ps : List (List ℕ)) (bytes : List ℕ) : Type 0 where
  pub gate : ℕ
  pub more : List ℕ
  pub is_open : gate ≢ 0
  pub short : length p < 2 ^ 32
  pub split : bytes ≡ gate ∷ (to_be_bytes w32 (length p) ++ (p ++ more))
  pub behind : Spells ps more

first : (p : List ℕ) (ps : List (List ℕ)) (bytes : List ℕ) → Spells (p ∷ ps) bytes → First p ps bytes
first p ps bytes s = let f = s.2 in record {
  gate = f.0;
  more = f.1 ++ 0 ∷ s.1;
  is_open = f.2;
  short = f.3;
  split = s.3 ∙ ap (λ (l : List ℕ). l ++ 0 ∷ s.1) f.4 ∙ ap (λ (l : List ℕ). f.0 ∷ l) (append_assoc (to_be_bytes w32 (length p)) (p ++ f.1) (0 ∷ s.1) ∙ ap (λ (l : List ℕ). to_be_bytes w32 (length p) ++ l) (append_assoc p f.1 (0 ∷ s.1)));
  behind = (f.1, s.1, f.5, refl);
}

closed_first : (bytes : List ℕ) → Spells [] bytes → (tail : List ℕ) × (bytes ≡ 0 ∷ tail)
closed_first bytes s = (s.1, s.3 ∙ ap (λ (l : List ℕ). l ++ 0 ∷ s.1) s.2)

clash : (p : List ℕ) (ps : List (List ℕ)) (bytes : List ℕ) → Spells [] bytes → Spells (p ∷ ps) bytes → ⊥
clash p ps bytes s t =
    let a = closed_first bytes s in
    let b = first p ps bytes t in
    b.is_open (sym (head_is 0 b.gate a.0 (to_be_bytes w32 (length p) ++ (p ++ b.more)) (sym a.1 ∙ b.split)).0)

pub spells_once : (ps qs : List (List ℕ)) (bytes : List ℕ) → Spells ps bytes → Spells qs bytes → ps ≡ qs
spells_once [] [] bytes s t = refl
spells_once [] (q ∷ qs) bytes s t = absurd (clash q qs bytes s t)
spells_once (p ∷ ps) [] bytes s t = absurd (clash p ps bytes t s)
spells_once (p ∷ ps) (q ∷ qs) bytes s t =
    let a = first p ps bytes s in
    let b = first q qs bytes t in
    let inner = (head_is a.gate b.gate (to_be_bytes w32 (length p) ++ (p ++ a.more)) (to_be_bytes w32 (length q) ++ (q ++ b.more)) (sym a.split ∙ b.split)).1 in
    let same = one_length (length p) (length q) (p ++ a.more) (q ++ b.more) a.short b.short inner in
    let heads : p ≡ q = sym (take_at p a.more (length p) refl) ∙ ap (λ (l : List ℕ). take (length p) l) same.1 ∙ take_at q b.more (length p) (sym same.0) in
    let rests : a.more ≡ b.more = sym (drop_at p a.more (length p) refl) ∙ ap (λ (l : List ℕ). drop (length p) l) same.1 ∙ drop_at q b.more (length p) (sym same.0) in
    let tails : ps ≡ qs = spells_once ps qs b.more (subst (Spells ps) rests a.behind) b.behind in
    (λ i. heads i ∷ tails i)

pub one_content : (disk : List ℕ) (x y : Content) → Stands disk x → Stands disk y → x ≡ y
one_content disk x y s t =
    let same = one_chosen disk s.0 t.0 x.format y.format s.1 (length x.image) t.1 (length y.image) s.2.chosen t.2.chosen in
    let images : x.image ≡ y.image = s.2.image ∙ (λ i. part (base (same.0 i) + 4096) (same.3 i) disk) ∙ sym t.2.image in
    let there : Spells x.payloads (part (base t.0 + journal_at y.format) (journal_len y.format) disk) =
    subst (λ (u : Side). Spells x.payloads (part (base u + journal_at y.format) (journal_len y.format) disk)) same.0 (subst (λ (e : Format). Spells x.payloads (part (base s.0 + journal_at e) (journal_len e) disk)) same.1 s.2.payloads) in
    let payloads : x.payloads ≡ y.payloads = spells_once x.payloads y.payloads (part (base t.0 + journal_at y.format) (journal_len y.format) disk) there t.2.payloads in
    (λ i. record { format = same.1 i; image = images i; payloads = payloads i })
