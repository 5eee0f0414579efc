-- The computed test of a name is the one of the plain types.
use Rattle.std.specs.Prelude.{◌≡◌, ℕ, List, [], ◌∷◌, ◌++◌, ◌&&◌, refl, codes, length, nat_le, nat_lt, not}
use Rattle.std.specs.List.{list_all}
use Rattle.std.specs.Str.{bytes_eq, is_utf8, chars}
use lib.Utf8.{encode, encodes, scalars}
use Rattle.cf_base.specs.Names as names
use Rattle.cf_model.specs.Texts.{all_encoded, chars_in, encoded, is_name, is_text}

encoded_is : (c : ℕ) → encoded c ≡ encode c
unfolding encode
encoded_is c = refl

all_encoded_is : (cs : List ℕ) → all_encoded cs ≡ encodes cs
all_encoded_is [] = refl
all_encoded_is (c ∷ cs) = λ i. encoded_is c i ++ all_encoded_is cs i

chars_are : (bs : List ℕ) → chars_in bs ≡ chars bs
unfolding chars
chars_are [] = refl
chars_are (b ∷ bs) = refl

same_test : (cs ds bs : List ℕ) → cs ≡ ds → (scalars cs && bytes_eq (all_encoded cs) bs) ≡ (scalars ds && bytes_eq (encodes ds) bs)
same_test cs ds bs e = λ i. scalars (e i) && bytes_eq (all_encoded_is (e i) i) bs

pub text_is : (bs : List ℕ) → is_text bs ≡ is_utf8 bs
unfolding is_utf8
text_is bs = same_test (chars_in bs) (chars bs) bs (chars_are bs)

pub name_is : (name : List ℕ) → is_name name ≡ names.is_name name
name_is name = λ i.
    nat_lt 0 (length name) && nat_le (length name) 255 && list_all names.is_name_byte name && text_is name i
    && not (bytes_eq name (codes ".")) && not (bytes_eq name (codes ".."))
