-- A text that is cut at its slashes.
use Rattle.std.proofs.Common.{◌≡◌, ℕ, suc, ◌<◌, List, [], ◌∷◌, ◌++◌, length, get_or, refl, sym, ap, ◌∙◌, arith, eqb, Some, None, Option, inl, inr}
use Rattle.std.specs.Prelude.{Bool, true, false, is_some, option_copied, codes, cond, nat_le, nat_lt, not, ◌&&◌, ◌≢◌, ◌⊎◌}
use denote.Ref.{Bor}
use Rattle.std.specs.List.{list_all}
use Rattle.std.specs.Str.{IsUtf8, bytes_eq}
use Rattle.std.proofs.lemmas.Str.{is_utf8-from_IsUtf8}
use Rattle.cf_base.specs.Names as names
use Rattle.cf_base.specs.Names.{is_name_byte}
use Rattle.cf_base.specs.declared.codes.Code.{Code}
use Rattle.cf_base.specs.declared.codes.Code.TheVariants as code
use Rattle.cf_base.specs.declared.codes.CallError.{CallError}
use Rattle.cf_base.specs.declared.codes.CallError.TheVariants as fail
use Rattle.std.proofs.lemmas.Bool.{cond-false, ne_eqb}
use Rattle.cf_model.specs.LookUp.{after_slash, names_of}
use Rattle.cf_model.specs.Texts.{is_name, is_text}
use Rattle.cf_model.specs.Words.{add_front, is_empty, split_at}
use Rattle.cf_model.proofs.NameLaws.{text_is}
use Rattle.cf_tree.specs.Parts.{is_name_of_text, names_in}

pub cut_at : (name rest : List ℕ) → ((i : ℕ) → i < length name → get_or name i 0 ≢ 47) → split_at 47 (name ++ 47 ∷ rest) ≡ name ∷ split_at 47 rest
cut_at [] rest none = refl
cut_at (b ∷ bs) rest none =
    cond-false (eqb b 47) _ _ (ne_eqb b 47 (none 0 (omega arith))) ∙ ap (add_front b) (cut_at bs rest (λ i lt. none (suc i) (omega arith)))

pub uncut : (text : List ℕ) → ((i : ℕ) → i < length text → get_or text i 0 ≢ 47) → split_at 47 text ≡ text ∷ []
uncut [] none = refl
uncut (b ∷ bs) none =
    cond-false (eqb b 47) _ _ (ne_eqb b 47 (none 0 (omega arith))) ∙ ap (add_front b) (uncut bs (λ i lt. none (suc i) (omega arith)))

pub no_slash : (path : List ℕ) → ((rest : List ℕ) → path ≢ 47 ∷ rest) → [] ∷ [] ≡ names_of path
no_slash [] none = refl
no_slash (b ∷ bs) none = sym (cond-false (eqb b 47) _ _ (ne_eqb b 47 (λ e. none bs (ap (λ x. x ∷ bs) e))))

pub more_names : (rest : List ℕ) → 0 < length rest → after_slash rest ≡ split_at 47 rest
more_names [] lt = absurd (omega arith)
more_names (b ∷ bs) lt = refl

front_some : (b : ℕ) (ns : List (List ℕ)) → is_empty (add_front b ns) ≡ false
front_some b [] = refl
front_some b (n ∷ ns) = refl

some_parts : (text : List ℕ) → is_empty (split_at 47 text) ≡ false
some_parts [] = refl
some_parts (b ∷ bs) = two (eqb b 47) where
  two : (c : Bool) → is_empty (cond c ([] ∷ split_at 47 bs) (add_front b (split_at 47 bs))) ≡ false
  two true = refl
  two false = front_some b (split_at 47 bs)

pub is_none_left : (left : Option (Bor (List ℕ))) (r : Bool) → is_some left ≡ not r → r ≡ is_empty (names_in (option_copied left))
is_none_left None true e = refl
is_none_left None false e = let z : false ≡ true = e in absurd cc
is_none_left (Some text) true e = let z : true ≡ false = e in absurd cc
is_none_left (Some text) false e = sym (some_parts text.now)

-- a text of UTF-8 is a name where the rest is as it should be
pub text_name : (text : List ℕ) → IsUtf8 text → is_name_of_text text ≡ is_name text
text_name text u = λ k. with_text (nat_lt 0 (length text) && nat_le (length text) 255 && list_all is_name_byte text) (is_text text)
    (not (bytes_eq text (codes "."))) (not (bytes_eq text (codes ".."))) (text_is text ∙ is_utf8-from_IsUtf8 text u) k where
      with_text : (a t b c : Bool) → t ≡ true → ((a && b) && c) ≡ (((a && t) && b) && c)
      with_text true true b c e = refl
      with_text false true b c e = refl
      with_text a false b c e = let z : false ≡ true = e in absurd cc

-- a name is never refused
pub read_refuses : (e : CallError) (k : Code) (bytes text : List ℕ) → e ≡ fail.No k → bytes ≡ text → names.is_name text ≡ true → (e ≡ fail.OutOfMemory) ⊎ ((e ≡ fail.No code.BadPath) × (names.is_name bytes ≡ false)) → ⊥
read_refuses e k bytes text is same good (inl m) = let z : fail.No k ≡ fail.OutOfMemory = sym is ∙ m in cc
read_refuses e k bytes text is same good (inr p) = let z : true ≡ false = sym good ∙ ap (λ v. names.is_name v) (sym same) ∙ p.1 in cc
