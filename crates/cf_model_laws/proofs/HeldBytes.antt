-- Files of which all bytes are here, or one is not.
use Rattle.std.proofs.Common.{◌≡◌, ◌+◌, ◌-◌, ℕ, zero, suc, Bool, true, false, List, [], ◌∷◌, ◌++◌, refl, ap, length}
use Rattle.std.specs.Prelude.{Option, Some, None, is_some, take, drop, replicate, map, cond, ◌&&◌}
use Rattle.std.specs.List.{list_all}
use Rattle.cf_base.specs.declared.ids.Usn.{Usn}
use Rattle.cf_model.specs.Contents.{up_to}
use Rattle.cf_model.specs.Effects.{filled, filled_front}
use Rattle.cf_model.specs.Numbers.{above}
use Rattle.cf_model.specs.Overlay.{Written, padded, patched, resized}
use Rattle.cf_model.specs.Words.{by_place}
use Rattle.std.specs.Prelude.{not}
use Rattle.cf_model_laws.specs.Invariant.{All}
use Rattle.cf_model_laws.proofs.Gathered.{all_append}

abbrev Is : Option ℕ → Type 0
Is h = is_some h ≡ true

first_true : (a b : Bool) → (a && b) ≡ true → a ≡ true
first_true true b h = refl
first_true false b h = h

second_true : (a b : Bool) → (a && b) ≡ true → b ≡ true
second_true true b h = h
second_true false b h = cc

both_true : (a b : Bool) → a ≡ true → b ≡ true → (a && b) ≡ true
both_true true b h k = k
both_true false b h k = cc

pub to_all : (hs : List (Option ℕ)) → list_all is_some hs ≡ true → All Is hs
to_all [] h = tt
to_all (x ∷ hs) h = (first_true (is_some x) (list_all is_some hs) h, to_all hs (second_true (is_some x) (list_all is_some hs) h))

pub of_all : (hs : List (Option ℕ)) → All Is hs → list_all is_some hs ≡ true
of_all [] h = refl
of_all (x ∷ hs) h = both_true (is_some x) (list_all is_some hs) h.0 (of_all hs h.1)

all_take : (n : ℕ) (hs : List (Option ℕ)) → All Is hs → All Is (take n hs)
all_take zero hs h = tt
all_take (suc n) [] h = tt
all_take (suc n) (x ∷ hs) h = (h.0, all_take n hs h.1)

all_drop : (n : ℕ) (hs : List (Option ℕ)) → All Is hs → All Is (drop n hs)
all_drop zero hs h = h
all_drop (suc n) [] h = tt
all_drop (suc n) (x ∷ hs) h = all_drop n hs h.1

all_replicate : (n : ℕ) → All Is (replicate n (Some 0))
all_replicate zero = tt
all_replicate (suc n) = (refl, all_replicate n)

all_some : (bs : List ℕ) → All Is (map Some bs)
all_some [] = tt
all_some (b ∷ bs) = (refl, all_some bs)

all_padded : (n : ℕ) (hs : List (Option ℕ)) → All Is hs → All Is (padded (Some 0) n hs)
all_padded n hs h = all_append Is hs (replicate (n - length hs) (Some 0)) h (all_replicate (n - length hs))

pub here_patched : (at : ℕ) (bytes : List ℕ) (hs : List (Option ℕ)) → list_all is_some hs ≡ true → list_all is_some (patched (Some 0) at (map Some bytes) hs) ≡ true
here_patched at bytes hs h =
    of_all (patched (Some 0) at (map Some bytes) hs)
    (all_append Is (take at (padded (Some 0) at hs) ++ map Some bytes) (drop (at + length (map Some bytes)) hs)
    (all_append Is (take at (padded (Some 0) at hs)) (map Some bytes) (all_take at (padded (Some 0) at hs) (all_padded at hs (to_all hs h))) (all_some bytes))
    (all_drop (at + length (map Some bytes)) hs (to_all hs h)))

pub here_resized : (n : ℕ) (hs : List (Option ℕ)) → list_all is_some hs ≡ true → list_all is_some (resized (Some 0) n hs) ≡ true
here_resized n hs h = of_all (resized (Some 0) n hs) (all_take n (padded (Some 0) n hs) (all_padded n hs (to_all hs h)))

all_front : (bs : List ℕ) (hs : List (Option ℕ)) → All Is hs → All Is (filled_front bs hs)
all_front [] hs h = h
all_front (b ∷ bs) [] h = tt
all_front (b ∷ bs) (x ∷ hs) h = (by (is_some x) h.0, all_front bs hs h.1) where
  by : (c : Bool) → is_some x ≡ true → is_some (cond c x (Some b)) ≡ true
  by true k = k
  by false k = refl

pub here_filled : (start : ℕ) (bs : List ℕ) (hs : List (Option ℕ)) → list_all is_some hs ≡ true → list_all is_some (filled start bs hs) ≡ true
here_filled start bs hs h =
    of_all (filled start bs hs) (all_append Is (take start hs) (filled_front bs (drop start hs)) (all_take start hs (to_all hs h)) (all_front bs (drop start hs) (all_drop start hs (to_all hs h))))

-- a file lacks no less once bytes leave
pub lacks_emptied : (leaves : ℕ → Bool) (at : ℕ) (hs : List (Option ℕ)) → list_all is_some hs ≡ false → list_all is_some (by_place (λ p h. cond (leaves p) None h) at hs) ≡ false
lacks_emptied leaves at [] h = h
lacks_emptied leaves at (x ∷ hs) h = by (leaves at) (is_some x) refl h (lacks_emptied leaves (at + 1) hs) where
  miss : (a b : Bool) → b ≡ false → (a && b) ≡ false
  miss true b k = k
  miss false b k = refl

  by : (l b : Bool) → is_some x ≡ b → (b && list_all is_some hs) ≡ false → (list_all is_some hs ≡ false → list_all is_some (by_place (λ p h. cond (leaves p) None h) (at + 1) hs) ≡ false)
      → (is_some (cond l None x) && list_all is_some (by_place (λ p h. cond (leaves p) None h) (at + 1) hs)) ≡ false
  by true b e k g = refl
  by false true e k g = miss (is_some x) (list_all is_some (by_place (λ p h. cond (leaves p) None h) (at + 1) hs)) (g k)
  by false false e k g = rw e refl

-- the writes up to a number stay under a later one
pub up_to_more : (at : Usn) (ws : List Written) (w : Written) → above w.number at ≡ true → up_to at (ws ++ w ∷ []) ≡ up_to at ws
up_to_more at [] w h = rw h refl
up_to_more at (v ∷ ws) w h = by (not (above v.number at)) (up_to_more at ws w h) where
  by : (b : Bool) → up_to at (ws ++ w ∷ []) ≡ up_to at ws → cond b (v ∷ up_to at (ws ++ w ∷ [])) (up_to at (ws ++ w ∷ [])) ≡ cond b (v ∷ up_to at ws) (up_to at ws)
  by true k = ap (λ (vs : List Written). v ∷ vs) k
  by false k = k
