-- The identity that an entry gives.
use Rattle.std.proofs.Common.{◌≡◌, ◌<◌, ◌≤◌, ℕ, zero, Bool, true, false, refl, sym, ◌∙◌, ap, arith}
use Rattle.std.specs.Prelude.{cond}
use Rattle.cf_base.specs.declared.ids.Rid.{Rid}
use Rattle.cf_base.specs.declared.messages.Entry.{Entry}
use Rattle.cf_model.specs.Identities.{entry_identity, identity_of}
use Rattle.cf_model.specs.Numbers.{no_rid, no_version}
use Rattle.cf_model.proofs.ReplyLaws.{read_back}
use Rattle.cf_model_laws.specs.Invariant.{target_in, version_in}
use Rattle.cf_model_laws.proofs.EntryLaws.{entry_target_in}

-- what is known of an entry: its item is below the root, and its numbers are small
pub record IsPlainEntry (e : Entry) : Type 0 where
  pub some : e.rid.0 ≡ 0 → ⊥
  pub small : e.rid.0 < 18446744073709551616
  pub version : e.version.0 < 18446744073709551616
  pub dir : e.dir ≡ true → e.version.0 ≡ 0

module _ (e : Entry) (plain : IsPlainEntry e) where
  -- the identity that it gives
  pub version_told : (version_in (entry_identity e)).0 ≡ e.version.0
  version_told = by e.dir refl where
    by : (b : Bool) → e.dir ≡ b → (version_in (cond b (identity_of e.rid no_rid no_version) (identity_of e.rid e.rid e.version))).0 ≡ e.version.0
    by true q = read_back 0 zero ∙ sym (plain.dir q) where
      zero : 0 < 18446744073709551616
      zero = omega arith
    by false q = read_back e.version.0 plain.version

  pub target_told : (target_in (entry_identity e)).0 ≡ e.rid.0
  target_told = ap (λ (r : Rid). r.0) (entry_target_in e plain.small)

  equal_less : (n m : ℕ) → n ≡ m → m ≤ n
  equal_less n m h = omega (arith, h)

  -- the version that the entry gives
  pub version_in_it : e.version.0 ≤ (version_in (entry_identity e)).0
  version_in_it = equal_less (version_in (entry_identity e)).0 e.version.0 version_told
