-- Laws of what is held laid over a base.
use Rattle.std.proofs.Common.{List, [], ◌∷◌, ◌++◌, refl, ◌≡◌, ◌∙◌, sym, ap, arith, ℕ, Bool, true, false, ◌+◌, ◌-◌, length}
use Rattle.std.specs.Prelude.{Option, Some, None, zero, suc, take, drop, replicate, map, cond, unwrap_or, is_some}
use Rattle.std.specs.List.{list_all}
use Rattle.cf_model.specs.Contents.{laid}
use Rattle.cf_model.specs.Effects.{filled, filled_front}
use Rattle.cf_model.specs.Items.{bytes_held}
use Rattle.cf_model.specs.Overlay.{LocalWrite, Written, after_write, over, padded, patched, resized}
use Rattle.cf_model.specs.Words.{by_place}

pub over-append : (base : List ℕ) (ws : List LocalWrite) (w : LocalWrite) → over base (ws ++ w ∷ []) ≡ after_write (over base ws) w
over-append base [] w = refl
over-append base (v ∷ ws) w = over-append (after_write base v) ws w

pub map-append : (f : Written → LocalWrite) (ws : List Written) (w : Written) → map f (ws ++ w ∷ []) ≡ map f ws ++ f w ∷ []
map-append f [] w = refl
map-append f (v ∷ ws) w = ap (λ r. f v ∷ r) (map-append f ws w)

pub map-length : (bs : List ℕ) → length (map Some bs) ≡ length bs
map-length [] = refl
map-length (b ∷ bs) = ap suc (map-length bs)

pub drop-none : {A : Type 0} (n : ℕ) → drop {A = A} n [] ≡ []
drop-none zero = refl
drop-none (suc n) = refl

pub laid-length : (hs : List (Option ℕ)) (bs : List ℕ) → length (laid hs bs) ≡ length hs
laid-length [] bs = refl
laid-length (h ∷ hs) [] = ap suc (laid-length hs [])
laid-length (h ∷ hs) (b ∷ bs) = ap suc (laid-length hs bs)

pub laid-append : (hs is : List (Option ℕ)) (bs : List ℕ) → laid (hs ++ is) bs ≡ laid hs bs ++ laid is (drop (length hs) bs)
laid-append [] is bs = refl
laid-append (h ∷ hs) is [] = ap (λ r. unwrap_or h 0 ∷ r) (laid-append hs is [] ∙ ap (λ r. laid hs [] ++ laid is r) (drop-none (length hs)))
laid-append (h ∷ hs) is (b ∷ bs) = ap (λ r. unwrap_or h b ∷ r) (laid-append hs is bs)

pub laid-take : (n : ℕ) (hs : List (Option ℕ)) (bs : List ℕ) → laid (take n hs) bs ≡ take n (laid hs bs)
laid-take zero hs bs = refl
laid-take (suc n) [] bs = refl
laid-take (suc n) (h ∷ hs) [] = ap (λ r. unwrap_or h 0 ∷ r) (laid-take n hs [])
laid-take (suc n) (h ∷ hs) (b ∷ bs) = ap (λ r. unwrap_or h b ∷ r) (laid-take n hs bs)

pub laid-drop : (n : ℕ) (hs : List (Option ℕ)) (bs : List ℕ) → laid (drop n hs) (drop n bs) ≡ drop n (laid hs bs)
laid-drop zero hs bs = refl
laid-drop (suc n) [] bs = refl
laid-drop (suc n) (h ∷ hs) [] = ap (λ r. laid (drop n hs) r) (sym (drop-none n)) ∙ laid-drop n hs []
laid-drop (suc n) (h ∷ hs) (b ∷ bs) = laid-drop n hs bs

pub laid-somes : (xs : List ℕ) (bs : List ℕ) → laid (map Some xs) bs ≡ xs
laid-somes [] bs = refl
laid-somes (x ∷ xs) [] = ap (λ r. x ∷ r) (laid-somes xs [])
laid-somes (x ∷ xs) (b ∷ bs) = ap (λ r. x ∷ r) (laid-somes xs bs)

pub laid-zeros : (n : ℕ) (bs : List ℕ) → laid (replicate n (Some 0)) bs ≡ replicate n 0
laid-zeros zero bs = refl
laid-zeros (suc n) [] = ap (λ r. 0 ∷ r) (laid-zeros n [])
laid-zeros (suc n) (b ∷ bs) = ap (λ r. 0 ∷ r) (laid-zeros n bs)

pub laid-nones : (n : ℕ) (bs : List ℕ) → length bs ≡ n → laid (replicate n None) bs ≡ bs
laid-nones zero [] e = refl
laid-nones zero (b ∷ bs) e = cc
laid-nones (suc n) [] e = cc
laid-nones (suc n) (b ∷ bs) e = ap (λ r. b ∷ r) (laid-nones n bs (let k : length bs ≡ n = omega arith in k))

pub laid-full : (hs : List (Option ℕ)) (bs : List ℕ) → list_all is_some hs ≡ true → laid hs bs ≡ bytes_held hs
laid-full [] bs e = refl
laid-full (None ∷ hs) bs e = cc
laid-full (Some a ∷ hs) [] e = ap (λ r. a ∷ r) (laid-full hs [] e)
laid-full (Some a ∷ hs) (b ∷ bs) e = ap (λ r. a ∷ r) (laid-full hs bs e)

pub laid-padded : (n : ℕ) (hs : List (Option ℕ)) (bs : List ℕ) → laid (padded (Some 0) n hs) bs ≡ padded 0 n (laid hs bs)
laid-padded n hs bs =
    laid-append hs _ bs ∙ ap (λ r. laid hs bs ++ r) (laid-zeros (n - length hs) _ ∙ ap (λ k. replicate (n - k) 0) (sym (laid-length hs bs)))

pub laid-resized : (n : ℕ) (hs : List (Option ℕ)) (bs : List ℕ) → laid (resized (Some 0) n hs) bs ≡ resized 0 n (laid hs bs)
laid-resized n hs bs = laid-take n _ bs ∙ ap (take n) (laid-padded n hs bs)

pub length-both : {A : Type 0} (xs ys : List A) → length (xs ++ ys) ≡ length xs + length ys
length-both [] ys = let e : 0 + length ys ≡ length ys = omega arith in rw e refl
length-both (x ∷ xs) ys = let e : suc (length xs) + length ys ≡ suc (length xs + length ys) = omega arith in rw e (ap suc (length-both xs ys))

pub take-replicate : {A : Type 0} (n : ℕ) (filler : A) → length (take n (replicate n filler)) ≡ n
take-replicate zero filler = refl
take-replicate (suc n) filler = ap suc (take-replicate n filler)

-- enough elements to take
pub take-length : {A : Type 0} (n : ℕ) (filler : A) (xs : List A) → length (take n (padded filler n xs)) ≡ n
take-length zero filler xs = refl
take-length (suc n) filler [] = let e : suc n - 0 ≡ suc n = omega arith in rw e (ap suc (take-replicate n filler))
take-length (suc n) filler (x ∷ xs) = let e : suc n - suc (length xs) ≡ n - length xs = omega arith in rw e (ap suc (take-length n filler xs))

pub laid-patched : (at : ℕ) (news : List ℕ) (hs : List (Option ℕ)) (bs : List ℕ) → laid (patched (Some 0) at (map Some news) hs) bs ≡ patched 0 at news (laid hs bs)
laid-patched at news hs bs =
    let front : List (Option ℕ) = take at (padded (Some 0) at hs) in
    let some : List (Option ℕ) = map Some news in
    let k : ℕ = length some in
    let rest : List (Option ℕ) = drop (at + k) hs in
    let whole : List ℕ = laid hs bs in
    let start : List ℕ = take at (padded 0 at whole) in
    let a : laid (front ++ some ++ rest) bs ≡ laid (front ++ some) bs ++ laid rest (drop (length (front ++ some)) bs) = laid-append (front ++ some) rest bs in
    let b : laid (front ++ some) bs ≡ laid front bs ++ laid some (drop (length front) bs) = laid-append front some bs in
    let d : laid front bs ≡ start = laid-take at (padded (Some 0) at hs) bs ∙ ap (take at) (laid-padded at hs bs) in
    let e : length (front ++ some) ≡ at + k = length-both front some ∙ ap (λ (r : ℕ). r + k) (take-length at (Some 0) hs) in
    let f : laid rest (drop (at + k) bs) ≡ drop (at + length news) whole = laid-drop (at + k) hs bs ∙ ap (λ (r : ℕ). drop (at + r) whole) (map-length news) in
    a ∙ ap (λ (r : List ℕ). r ++ laid rest (drop (length (front ++ some)) bs)) b
    ∙ ap (λ (r : ℕ). laid front bs ++ laid some (drop (length front) bs) ++ laid rest (drop r bs)) e
    ∙ ap (λ (r : List ℕ). r ++ laid some (drop (length front) bs) ++ laid rest (drop (at + k) bs)) d
    ∙ ap (λ (r : List ℕ). start ++ r ++ laid rest (drop (at + k) bs)) (laid-somes news (drop (length front) bs))
    ∙ ap (λ (r : List ℕ). start ++ news ++ r) f

-- filling with the base's bytes
pub laid-filled_front : (bytes : List ℕ) (hs : List (Option ℕ)) (bs : List ℕ) → take (length bytes) bs ≡ bytes → laid (filled_front bytes hs) bs ≡ laid hs bs
laid-filled_front [] hs bs e = refl
laid-filled_front (x ∷ xs) [] bs e = refl
laid-filled_front (x ∷ xs) (h ∷ hs) [] e = cc
laid-filled_front (x ∷ xs) (Some a ∷ hs) (b ∷ bs) e = ap (λ r. a ∷ r) (laid-filled_front xs hs bs (let k : take (length xs) bs ≡ xs = cc in k))
laid-filled_front (x ∷ xs) (None ∷ hs) (b ∷ bs) e =
    let k : b ≡ x = cc in let m : take (length xs) bs ≡ xs = cc in
    ap (λ r. r ∷ laid (filled_front xs hs) bs) (sym k) ∙ ap (λ r. b ∷ r) (laid-filled_front xs hs bs m)

pub laid-filled : (start : ℕ) (bytes : List ℕ) (hs : List (Option ℕ)) (bs : List ℕ) → take (length bytes) (drop start bs) ≡ bytes → laid (filled start bytes hs) bs ≡ laid hs bs
laid-filled zero bytes hs bs e = laid-filled_front bytes hs bs e
laid-filled (suc n) bytes [] bs e = ap (λ r. laid r bs) (none bytes) where
  none : (bytes : List ℕ) → filled_front bytes [] ≡ []
  none [] = refl
  none (x ∷ xs) = refl
laid-filled (suc n) bytes (h ∷ hs) [] e = ap (λ r. unwrap_or h 0 ∷ r) (laid-filled n bytes hs [] (ap (take (length bytes)) (drop-none n) ∙ e))
laid-filled (suc n) bytes (h ∷ hs) (b ∷ bs) e = ap (λ r. unwrap_or h b ∷ r) (laid-filled n bytes hs bs e)

-- what is taken away is the base's again, where the base alone is the content
pub laid-emptied : (leaves : ℕ → Bool) (at : ℕ) (hs : List (Option ℕ)) (bs : List ℕ) → bs ≡ laid hs bs → bs ≡ laid (by_place (λ p h. cond (leaves p) None h) at hs) bs
laid-emptied leaves at [] bs e = e
laid-emptied leaves at (h ∷ hs) [] e = cc
laid-emptied leaves at (h ∷ hs) (b ∷ bs) e =
    let k : b ≡ unwrap_or h b = cc in let m : bs ≡ laid hs bs = cc in
    one h b bs (leaves at) k ∙ ap (λ (r : List ℕ). unwrap_or (cond (leaves at) None h) b ∷ r) (laid-emptied leaves (at + 1) hs bs m) where
      one : (h : Option ℕ) (b : ℕ) (bs : List ℕ) (l : Bool) → b ≡ unwrap_or h b → b ∷ bs ≡ unwrap_or (cond l None h) b ∷ bs
      one h b bs true k = refl
      one h b bs false k = ap (λ (r : ℕ). r ∷ bs) k
