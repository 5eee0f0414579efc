-- What the code sees of a row is what the definitions see of its item.
use Rattle.std.proofs.Common.{◌≡◌, ℕ, suc, Bool, true, false, List, [], ◌∷◌, refl, ◌∙◌, ap, subst, ◌+◌, ◌<◌, ◌≤◌, length, arith}
use Rattle.std.specs.Prelude.{Option, is_some, map, min, not, unwrap_or, nat_lt, ◌&&◌, ◌||◌}
use Rattle.std.proofs.lemmas.Bool.{lt-ltb}
use Rattle.cf_ask_rule.specs.Sights.{is_lacking, seen}
use Rattle.cf_base.specs.declared.policies.Policy.{Policy}
use Rattle.cf_base.specs.declared.spans.Span.{Span}
use Rattle.cf_model.specs.Items.{Item, base_of, is_held}
use Rattle.cf_model.specs.Missing.{View, absent_flags, either_flag, is_whole, lacking, unvouched, view_of}
use Rattle.cf_model.specs.Overlay.{Written, is_covered}
use Rattle.cf_model.specs.Words.{by_place, counting, passes_at}
use Rattle.cf_ranges.specs.Positions.{contains}
use Rattle.cf_filter_steps.specs.Good.{IsSmall}
use Rattle.cf_table.specs.Means.{Means}
use Rattle.cf_table.specs.declared.rows.Row.{Row}

-- the flag of each place from k on, as a list
placed : (f : ℕ → Bool) (k : ℕ) (held : List (Option ℕ)) → ((p : ℕ) → f (k + p) ≡ is_held held p) → map (λ p. not (f p)) (counting k (length held)) ≡ map (λ h. not (is_some h)) held
placed f k [] h = refl
placed f k (x ∷ xs) h =
    let first : f k ≡ is_some x = subst (λ (n : ℕ). f n ≡ is_some x) (omega arith) (h 0) in
    let rest : map (λ p. not (f p)) (counting (k + 1) (length xs)) ≡ map (λ h. not (is_some h)) xs =
    placed f (k + 1) xs (λ p. subst (λ (n : ℕ). f n ≡ is_held xs p) (omega arith) (h (suc p))) in
    rw first (rw rest refl)

-- the same where somebody has to vouch for a byte
vouched : (here valid modified : ℕ → Bool) (k : ℕ) (held : List (Option ℕ)) (flags : List Bool) (ws : List Written)
    → length flags ≡ length held
    → ((p : ℕ) → here (k + p) ≡ is_held held p) → ((p : ℕ) → valid (k + p) ≡ passes_at (λ b. b) flags p) → ((p : ℕ) → p < length held → modified (k + p) ≡ is_covered ws (k + p))
    → map (λ p. not (here p) || not (valid p || modified p)) (counting k (length held)) ≡ unvouched held (either_flag flags (by_place (λ p h. is_covered ws p) k held))
vouched here valid modified k [] flags ws e h v m = refl
vouched here valid modified k (x ∷ xs) [] ws e h v m = absurd (zero_suc e) where
  zero_suc : 0 ≡ suc (length xs) → ⊥
  zero_suc q = omega (arith, q)
vouched here valid modified k (x ∷ xs) (b ∷ bs) ws e h v m =
    let first : here k ≡ is_some x = subst (λ (n : ℕ). here n ≡ is_some x) (omega arith) (h 0) in
    let good : valid k ≡ b = subst (λ (n : ℕ). valid n ≡ b) (omega arith) (v 0) in
    let wrote : modified k ≡ is_covered ws k = subst (λ (n : ℕ). modified n ≡ is_covered ws n) (omega arith) (m 0 (omega arith)) in
    let rest : map (λ p. not (here p) || not (valid p || modified p)) (counting (k + 1) (length xs)) ≡ unvouched xs (either_flag bs (by_place (λ p h. is_covered ws p) (k + 1) xs)) =
    vouched here valid modified (k + 1) xs bs ws (omega (arith, e))
    (λ p. subst (λ (n : ℕ). here n ≡ is_held xs p) (omega arith) (h (suc p)))
    (λ p. subst (λ (n : ℕ). valid n ≡ passes_at (λ b. b) bs p) (omega arith) (v (suc p)))
    (λ p q. subst (λ (n : ℕ). modified n ≡ is_covered ws n) (omega arith) (m (suc p) (omega (arith, q)))) in
    rw first (rw good (rw wrote (rw rest refl)))

-- the sets of a row, as far as a view shows them
record Shows (here valid modified : List Span) (i : Item) : Type 0 where
  pub even : length i.valid ≡ length i.held
  pub has_here : (p : ℕ) → contains here p ≡ is_held i.held p
  pub has_valid : (p : ℕ) → contains valid p ≡ passes_at (λ b. b) i.valid p
  pub has_modified : (p : ℕ) → p < length i.held → contains modified p ≡ is_covered i.writes p

abbrev view_with : ℕ → Bool → Bool → List Bool → List Bool → View
view_with base whole populated absent lacks = record { absent = absent; lacks = lacks; base = base; whole = whole; populated = populated }

same_sight : (here valid modified : List Span) (validate full : Bool) (i : Item) → Shows here valid modified i
    → seen here valid modified (length i.held) (base_of i) validate full i.populated ≡ record { absent = absent_flags i; lacks = lacking validate i; base = base_of i; whole = full; populated = i.populated }
same_sight here valid modified validate full i row = by validate where
  absent : map (λ p. not (contains here p)) (counting 0 (length i.held)) ≡ absent_flags i
  absent = placed (contains here) 0 i.held (λ p. subst (λ (n : ℕ). contains here n ≡ is_held i.held p) (omega arith) (row.has_here p))

  by : (v : Bool) → seen here valid modified (length i.held) (base_of i) v full i.populated ≡ record { absent = absent_flags i; lacks = lacking v i; base = base_of i; whole = full; populated = i.populated }
  by false = ap (λ (bs : List Bool). view_with (base_of i) full i.populated bs bs) absent
  by true =
      ap (λ (bs : List Bool). view_with (base_of i) full i.populated bs (map (is_lacking true here valid modified) (counting 0 (length i.held)))) absent
      ∙ ap (λ (bs : List Bool). view_with (base_of i) full i.populated (absent_flags i) bs)
      (vouched (contains here) (contains valid) (contains modified) 0 i.held i.valid i.writes row.even
      (λ p. subst (λ (n : ℕ). contains here n ≡ is_held i.held p) (omega arith) (row.has_here p))
      (λ p. subst (λ (n : ℕ). contains valid n ≡ passes_at (λ b. b) i.valid p) (omega arith) (row.has_valid p))
      (λ p small. subst (λ (n : ℕ). contains modified n ≡ is_covered i.writes n) (omega arith) (row.has_modified p small)))

shows_bytes : (row : Row) (i : Item) → Means row i → Shows row.here row.valid row.modified i
shows_bytes row i m = record {
  even = m.bytes.even;
  has_here = m.bytes.here;
  has_valid = m.bytes.valid;
  has_modified = λ p small. m.bytes.modified p ∙ one (nat_lt p (length i.held)) (is_covered i.writes p) (ltb-below p (length i.held) small);
} where
  one : (a b : Bool) → a ≡ true → (a && b) ≡ b
  one true b q = refl
  one false b q = let z : false ≡ true = q in cc

  ltb-below : (p n : ℕ) → p < n → nat_lt p n ≡ true
  ltb-below p n h = lt-ltb p n h

-- What the code sees of a row under a policy is the view of the item.
pub sees : (row : Row) (i : Item) (policy : Policy) (size base : ℕ) (full : Bool) → Means row i → IsSmall i
    → size ≡ min row.size 16777216 → base ≡ min (unwrap_or row.base 0) 16777216 → full ≡ (is_whole policy.hydration || row.keep)
    → seen row.here row.valid row.modified size base policy.validate full row.populated ≡ view_of policy i
sees row i policy size base full m small s b f =
    ap (λ (x : ℕ × ℕ × Bool × Bool). seen row.here row.valid row.modified x.0 x.1 policy.validate x.2 x.3) (numbers size base full row.populated (s ∙ ap (λ n. min n 16777216) m.bytes.size ∙ least (length i.held) small.size)
    (b ∙ ap (λ (o : Option ℕ). min (unwrap_or o 0) 16777216) m.base ∙ least (base_of i) small.base) (f ∙ ap (λ k. is_whole policy.hydration || k) m.keep) m.populated)
    ∙ same_sight row.here row.valid row.modified policy.validate (is_whole policy.hydration || i.keep) i (shows_bytes row i m) where
      least : (n : ℕ) → n ≤ 16777216 → min n 16777216 ≡ n
      least n h = omega (arith, h)

      numbers : (a c : ℕ) (d e : Bool) {k l : ℕ} {u v : Bool} → a ≡ k → c ≡ l → d ≡ u → e ≡ v → ◌≡◌ {A = ℕ × ℕ × Bool × Bool} (a, c, d, e) (k, l, u, v)
      numbers a c d e p q r t = λ x. (p x, q x, r x, t x)
