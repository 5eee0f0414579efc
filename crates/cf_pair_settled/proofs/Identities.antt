-- The identity of an item with a target is spelled by the numbers that are read from it.
use Rattle.std.proofs.Common.{◌≡◌, inl, inr, ℕ, Bool, true, false, List, [], ◌∷◌, ◌++◌, ◌/◌, ◌%◌, refl, sym, ◌∙◌, ap, subst, take, drop, nat_lt, arith}
use Rattle.std.specs.Prelude.{cond, ◌==◌}
use Rattle.std.proofs.lemmas.Bool.{eqb-true}
use Rattle.cf_base.specs.declared.ids.Rid.{Rid}
use Rattle.cf_base.specs.declared.ids.Version.{Version}
use Rattle.cf_model.specs.Identities.{base_rid, base_version, identity_for, identity_of, target_of}
use Rattle.cf_model.specs.Items.{Item}
use Rattle.cf_model.specs.Words.{in_bytes, number_of}
use Rattle.cf_model.proofs.ReplyLaws.{read_back}
use Rattle.cf_model_laws.proofs.RightItems.{no_way}
use Rattle.cf_pair_identities.specs.Named.{IsNamedAs}

abbrev pub spelled : ℕ → ℕ → ℕ → List ℕ
spelled a b c = in_bytes 8 a ++ in_bytes 8 b ++ in_bytes 8 c

pub record IsSpelled (i : Item) : Type 0 where
  pub placeholder : i.placeholder ≡ true
  pub identity : i.identity ≡ identity_of (target_of i) (base_rid i) (base_version i)
  pub bare : i.directory ≡ true → ((base_rid i).0 ≡ 0) × ((base_version i).0 ≡ 0)

-- numbers that are read from bytes are spelled by these bytes again

again : (n : ℕ) → in_bytes 8 (number_of (in_bytes 8 n)) ≡ in_bytes 8 n
again n = ap (in_bytes 8) (ap number_of (sym short) ∙ read_back (n % 18446744073709551616) (omega arith)) ∙ short where
  short : in_bytes 8 (n % 18446744073709551616) ≡ in_bytes 8 n
  short =
      let e7 : n % 18446744073709551616 / 72057594037927936 % 256 ≡ n / 72057594037927936 % 256 = omega arith in
      let e6 : n % 18446744073709551616 / 281474976710656 % 256 ≡ n / 281474976710656 % 256 = omega arith in
      let e5 : n % 18446744073709551616 / 1099511627776 % 256 ≡ n / 1099511627776 % 256 = omega arith in
      let e4 : n % 18446744073709551616 / 4294967296 % 256 ≡ n / 4294967296 % 256 = omega arith in
      let e3 : n % 18446744073709551616 / 16777216 % 256 ≡ n / 16777216 % 256 = omega arith in
      let e2 : n % 18446744073709551616 / 65536 % 256 ≡ n / 65536 % 256 = omega arith in
      let e1 : n % 18446744073709551616 / 256 % 256 ≡ n / 256 % 256 = omega arith in
      let e0 : n % 18446744073709551616 / 1 % 256 ≡ n / 1 % 256 = omega arith in
      λ j. e7 j ∷ e6 j ∷ e5 j ∷ e4 j ∷ e3 j ∷ e2 j ∷ e1 j ∷ e0 j ∷ []

spelled_again : (a b c : ℕ) (identity : List ℕ) → identity ≡ spelled a b c → identity ≡ spelled (number_of (take 8 identity)) (number_of (take 8 (drop 8 identity))) (number_of (drop 16 identity))
spelled_again a b c identity e =
    subst (λ (xs : List ℕ). xs ≡ spelled (number_of (take 8 xs)) (number_of (take 8 (drop 8 xs))) (number_of (drop 16 xs))) (sym e)
    (sym (λ j. again a j ++ again b j ++ again c j))

-- an item with a target is a placeholder with its identity
pub targeted : (i : Item) → (i.id.0 ≡ 1 → ⊥) → (i.placeholder ≡ false → i.identity ≡ []) → IsNamedAs i.directory i.identity → nat_lt 0 (target_of i).0 ≡ true → IsSpelled i
targeted i below plain named some = by named where
  own : target_of i ≡ record { 0 = number_of (take 8 i.identity) }
  own = one (i.id.0 == 1) refl where
    one : (b : Bool) → (i.id.0 == 1) ≡ b → target_of i ≡ record { 0 = number_of (take 8 i.identity) }
    one true q = absurd (below (eqb-true i.id.0 1 q))
    one false q = ap (λ (b : Bool). cond {A = Rid} b (record { 0 = 1 }) (record { 0 = number_of (take 8 i.identity) })) q

  none : number_of (take 8 i.identity) ≡ 0 → ⊥
  none z = no_way (ap (λ (n : ℕ). nat_lt 0 n) (sym z) ∙ ap (λ (r : Rid). nat_lt 0 r.0) (sym own) ∙ some)

  is_placeholder : (p : Bool) → i.placeholder ≡ p → i.placeholder ≡ true
  is_placeholder true q = q
  is_placeholder false q = absurd (none (ap (λ (xs : List ℕ). number_of (take 8 xs)) (plain q)))

  of : (a b c : ℕ) → i.identity ≡ spelled a b c → (i.directory ≡ true → (b ≡ 0) × (c ≡ 0)) → IsSpelled i
  of a b c e bare = record {
    placeholder = is_placeholder i.placeholder refl;
    identity = subst (λ (r : Rid). i.identity ≡ identity_of r (base_rid i) (base_version i)) (sym own) (spelled_again a b c i.identity e);
    bare = λ d. (
      ap (λ (xs : List ℕ). number_of (take 8 (drop 8 xs))) e ∙ ap (λ (n : ℕ). number_of (in_bytes 8 n)) (bare d).0,
      ap (λ (xs : List ℕ). number_of (drop 16 xs)) e ∙ ap (λ (n : ℕ). number_of (in_bytes 8 n)) (bare d).1,
    );
  }

  kinds : (b : Bool) (rid : Rid) (version : Version) → (i.directory ≡ true → b ≡ true) → i.identity ≡ identity_for b rid version → IsSpelled i
  kinds true rid version k e = of rid.0 0 0 e (λ d. (refl, refl))
  kinds false rid version k e = of rid.0 rid.0 version.0 e (λ d. no_way (k d))

  by : IsNamedAs i.directory i.identity → IsSpelled i
  by (inl z) = absurd (none z)
  by (inr h) = kinds h.0 h.1 h.2 h.3 h.4
