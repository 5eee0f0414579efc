-- What is laid over a base, byte by byte and span by span.
use Rattle.std.proofs.Common.{◌≡◌, ◌⊎◌, ◌≤◌, ◌+◌, ◌-◌, min, max, ℕ, zero, suc, Bool, true, false, List, [], ◌∷◌, refl, sym, ◌∙◌, ap, subst, inl, inr, arith, length, take, drop}
use Rattle.std.specs.Prelude.{Option, Some, None, map, not, is_some, slice_get, slice_range, unwrap_or, ◌||◌, ◌&&◌}
use Rattle.std.specs.List.{list_all, list_any}
use Rattle.cf_base.specs.declared.spans.Span.{Span}
use Rattle.cf_base.specs.declared.waits.Cause.TheVariants as cause
use Rattle.cf_base.specs.declared.waits.End.TheVariants as end
use Rattle.cf_base.specs.declared.waits.WaitKind.TheVariants as wait_kind
use Rattle.cf_model.specs.Contents.{IsTrueTo, laid}
use Rattle.cf_model.specs.Identities.{base_bytes, content}
use Rattle.cf_model.specs.Items.{Item, bytes_held, item_of}
use Rattle.cf_model.specs.Missing.{View, Wait, any_between, is_met, lacking, needed_by_read, view_of}
use Rattle.cf_model.specs.Settling.{bytes_in, end_of, no_view, view_at}
use Rattle.cf_model.specs.State.{Filter}
use Rattle.cf_model.specs.Store.{Held}
use Rattle.cf_model.specs.Words.{part}
use Rattle.cf_model.proofs.Laying.{laid-full}
use Rattle.cf_model_laws.specs.Contents.{IsFileRight}
use Rattle.cf_model_laws.proofs.RightItems.{no_way, no_way_back}
use Rattle.cf_model_laws.proofs.SoundSettles.{not_true}

-- byte by byte

laid_long : (hs : List (Option ℕ)) (bs : List ℕ) → length hs ≡ length (laid hs bs)
laid_long [] bs = refl
laid_long (h ∷ hs) [] = ap suc (laid_long hs [])
laid_long (h ∷ hs) (b ∷ bs) = ap suc (laid_long hs bs)

here_laid : (hs : List (Option ℕ)) (bs : List ℕ) (at b : ℕ) → slice_get hs at ≡ Some (Some b) → slice_get (laid hs bs) at ≡ Some b
here_laid [] bs zero b e = cc
here_laid [] bs (suc at) b e = cc
here_laid (Some h ∷ hs) [] zero b e = cc
here_laid (Some h ∷ hs) (c ∷ bs) zero b e = cc
here_laid (None ∷ hs) [] zero b e = cc
here_laid (None ∷ hs) (c ∷ bs) zero b e = cc
here_laid (h ∷ hs) [] (suc at) b e = here_laid hs [] at b e
here_laid (h ∷ hs) (c ∷ bs) (suc at) b e = here_laid hs bs at b e

pub true_right : (r : Held) (i : Item) → IsTrueTo r i → IsFileRight r i
true_right r i h = record {
  long = laid_long i.held (base_bytes r i) ∙ sym (ap length h);
  here = λ at b e. subst (λ (c : List ℕ). slice_get c at ≡ Some b) (sym h) (here_laid i.held (base_bytes r i) at b e);
}

-- span by span

drop_laid : (n : ℕ) (hs : List (Option ℕ)) (bs : List ℕ) → drop n (laid hs bs) ≡ laid (drop n hs) (drop n bs)
drop_laid zero hs bs = refl
drop_laid (suc n) [] bs = refl
drop_laid (suc n) (h ∷ hs) [] = drop_laid n hs [] ∙ ap (laid (drop n hs)) (none n) where
  none : (n : ℕ) → ◌≡◌ {A = List ℕ} (drop n []) []
  none zero = refl
  none (suc n) = refl
drop_laid (suc n) (h ∷ hs) (b ∷ bs) = drop_laid n hs bs

take_laid : (n : ℕ) (hs : List (Option ℕ)) (bs : List ℕ) → take n (laid hs bs) ≡ laid (take n hs) (take n bs)
take_laid zero hs bs = refl
take_laid (suc n) [] bs = refl
take_laid (suc n) (h ∷ hs) [] = ap (λ (cs : List ℕ). unwrap_or h 0 ∷ cs) (take_laid n hs [] ∙ ap (laid (take n hs)) (none n)) where
  none : (n : ℕ) → ◌≡◌ {A = List ℕ} (take n []) []
  none zero = refl
  none (suc n) = refl
take_laid (suc n) (h ∷ hs) (b ∷ bs) = ap (λ (cs : List ℕ). unwrap_or h b ∷ cs) (take_laid n hs bs)

abbrev absent : Option ℕ → Bool
absent h = not (is_some h)

here_one : (h : Option ℕ) → not (is_some h) ≡ false → is_some h ≡ true
here_one (Some b) e = refl
here_one None e = no_way_back e

or_none : (a b : Bool) → (a || b) ≡ false → (a ≡ false) × (b ≡ false)
or_none true b e = no_way_back e
or_none false b e = (refl, e)

all_in : (hs : List (Option ℕ)) (s m n : ℕ) → list_any (λ b. b) (take m (drop s (map absent hs))) ≡ false → (n ≤ m) ⊎ (length (map absent hs) ≤ s + m) → list_all is_some (take n (drop s hs)) ≡ true
all_in [] zero m zero e h = refl
all_in [] zero m (suc n) e h = refl
all_in [] (suc s) m zero e h = refl
all_in [] (suc s) m (suc n) e h = refl
all_in (x ∷ hs) zero m zero e h = refl
all_in (x ∷ hs) zero zero (suc n) e (inl h) = absurd (none n h) where
  none : (n : ℕ) → suc n ≤ zero → ⊥
  none n h = omega (arith, h)
all_in (x ∷ hs) zero zero (suc n) e (inr h) = absurd (none (length (map absent hs)) h) where
  none : (n : ℕ) → suc n ≤ zero + zero → ⊥
  none n h = omega (arith, h)
all_in (x ∷ hs) zero (suc m) (suc n) e h =
    let k = or_none (absent x) (list_any (λ b. b) (take m (map absent hs))) e in
    both (here_one x k.0) (all_in hs zero m n k.1 (less h))
  where
    both : {a b : Bool} → a ≡ true → b ≡ true → (a && b) ≡ true
    both {a} {b} p q = rw p q

    less : (suc n ≤ suc m) ⊎ (suc (length (map absent hs)) ≤ zero + suc m) → (n ≤ m) ⊎ (length (map absent hs) ≤ zero + m)
    less (inl h) = inl (let z : n ≤ m = omega (arith, h) in z)
    less (inr h) = inr (let z : length (map absent hs) ≤ zero + m = omega (arith, h) in z)
all_in (x ∷ hs) (suc s) m n e h = all_in hs s m n e (less h) where
  less : (n ≤ m) ⊎ (suc (length (map absent hs)) ≤ suc s + m) → (n ≤ m) ⊎ (length (map absent hs) ≤ s + m)
  less (inl h) = inl h
  less (inr h) = inr (let z : length (map absent hs) ≤ s + m = omega (arith, h) in z)

either_way : (a b : ℕ) → (a ≤ b) ⊎ (b ≤ a)
either_way zero b = inl (let z : zero ≤ b = omega arith in z)
either_way (suc a) zero = inr (let z : zero ≤ suc a = omega arith in z)
either_way (suc a) (suc b) = elim (either_way a b) as (λ _. (suc a ≤ suc b) ⊎ (suc b ≤ suc a)) [ inl h ↦ inl (let z : suc a ≤ suc b = omega (arith, h) in z) | inr h ↦ inr (let z : suc b ≤ suc a = omega (arith, h) in z) ]

all_of : (n : ℕ) (hs : List (Option ℕ)) → list_all is_some hs ≡ true → list_all is_some (take n hs) ≡ true
all_of zero hs h = refl
all_of (suc n) [] h = refl
all_of (suc n) (None ∷ hs) h = no_way h
all_of (suc n) (Some b ∷ hs) h = all_of n hs h

all_past : (n : ℕ) (hs : List (Option ℕ)) → list_all is_some hs ≡ true → list_all is_some (drop n hs) ≡ true
all_past zero hs h = h
all_past (suc n) [] h = refl
all_past (suc n) (None ∷ hs) h = no_way h
all_past (suc n) (Some b ∷ hs) h = all_past n hs h

whole_taken : (hs : List (Option ℕ)) → take (length (map absent hs)) hs ≡ hs
whole_taken [] = refl
whole_taken (h ∷ hs) = ap (λ (ks : List (Option ℕ)). h ∷ ks) (whole_taken hs)

-- where the read misses nothing, each byte of its span is here
span_here : (whole : Bool) (hs : List (Option ℕ)) (asked : Span)
    → any_between (map absent hs) (max (needed_by_read whole (length (map absent hs)) asked).start 0) (min ((needed_by_read whole (length (map absent hs)) asked).start + (needed_by_read whole (length (map absent hs)) asked).len) (length (map absent hs))) ≡ false
    → list_all is_some (slice_range hs asked.start (asked.start + asked.len)) ≡ true
span_here true hs asked e =
    all_of ((asked.start + asked.len) - asked.start) (drop asked.start hs) (all_past asked.start hs
    (subst (λ (ks : List (Option ℕ)). list_all is_some ks ≡ true) (whole_taken hs) (all_in hs 0 (min (0 + length (map absent hs)) (length (map absent hs)) - 0) (length (map absent hs)) e (inl (enough (length (map absent hs)))))))
  where
    enough : (n : ℕ) → n ≤ min (0 + n) n - 0
    enough n = omega arith
span_here false hs asked e =
    all_in hs asked.start (min (asked.start + asked.len) (length (map absent hs)) - asked.start) ((asked.start + asked.len) - asked.start)
    (subst (λ (a : ℕ). list_any (λ b. b) (take (min (asked.start + asked.len) (length (map absent hs)) - a) (drop a (map absent hs))) ≡ false) (zero_max asked.start) e)
    (enough asked.start asked.len (length (map absent hs)) (either_way (asked.start + asked.len) (length (map absent hs))))
  where
    zero_max : (n : ℕ) → max n 0 ≡ n
    zero_max n = omega arith

    enough : (s n l : ℕ) → (s + n ≤ l) ⊎ (l ≤ s + n) → ((s + n) - s ≤ min (s + n) l - s) ⊎ (l ≤ s + (min (s + n) l - s))
    enough s n l (inl h) = inl (let z : (s + n) - s ≤ min (s + n) l - s = omega (arith, h) in z)
    enough s n l (inr h) = inr (let z : l ≤ s + (min (s + n) l - s) = omega (arith, h) in z)

span_laid : (hs : List (Option ℕ)) (bs : List ℕ) (a b : ℕ) → list_all is_some (slice_range hs a b) ≡ true → bytes_held (slice_range hs a b) ≡ slice_range (laid hs bs) a b
span_laid hs bs a b h =
    sym (laid-full (take (b - a) (drop a hs)) (take (b - a) (drop a bs)) h) ∙ sym (take_laid (b - a) (drop a hs) (drop a bs)) ∙ ap (take (b - a)) (sym (drop_laid a hs bs))

-- a read that misses nothing
pub read_right : (r : Held) (x : Filter) (w : Wait) (i : Item) → x.policy.validate ≡ false → IsTrueTo r i → w.kind ≡ wait_kind.Read → item_of x.volume.items w.item ≡ Some i → is_met (view_at x w.item) w ≡ true
    → end_of x.volume.items w cause.Met ≡ end.Data (slice_range (content r i) w.span.start (w.span.start + w.span.len))
read_right r x w i free is_true kind there met =
    subst (λ (u : Wait). end_of x.volume.items u cause.Met ≡ end.Data (slice_range (content r i) w.span.start (w.span.start + w.span.len))) (sym same)
    (ap (λ (bs : List ℕ). end.Data bs) (ap (part (bytes_in w.span) []) there ∙ span_laid i.held (base_bytes r i) w.span.start (w.span.start + w.span.len) here ∙ ap (λ (c : List ℕ). slice_range c w.span.start (w.span.start + w.span.len)) (sym is_true)))
  where
    same : ◌≡◌ {A = Wait} w (record w { kind = wait_kind.Read })
    same = ap (λ k. record w { kind = k }) kind

    met_now : is_met (view_of x.policy i) (record w { kind = wait_kind.Read }) ≡ true
    met_now = subst (λ (v : View). is_met v (record w { kind = wait_kind.Read }) ≡ true) (ap (part (view_of x.policy) no_view) there) (subst (λ (u : Wait). is_met (view_at x w.item) u ≡ true) same met)

    here : list_all is_some (slice_range i.held w.span.start (w.span.start + w.span.len)) ≡ true
    here = span_here (view_of x.policy i).whole i.held w.span
        (subst (λ (v : Bool). any_between (lacking v i) (max (needed_by_read (view_of x.policy i).whole (length (lacking v i)) w.span).start 0) (min ((needed_by_read (view_of x.policy i).whole (length (lacking v i)) w.span).start + (needed_by_read (view_of x.policy i).whole (length (lacking v i)) w.span).len) (length (lacking v i))) ≡ false) free
        (not_true _ met_now))
