-- The words that join parts: of sure parts they make sure ones.
use Rattle.std.proofs.Common.{◌≤◌, ◌+◌, ℕ, arith, length, length-append, ◌≡◌, ◌⊎◌, Bool, true, false, List, [], ◌∷◌, ◌++◌, refl, sym, ◌∙◌, ap, subst, inl, inr, append_assoc, append-nil}
use Rattle.std.specs.Prelude.{Option, Some, None}
use Rattle.cf_base.specs.declared.codes.Code.{Code}
use Rattle.cf_base.specs.declared.notices.Notice.{Notice}
use Rattle.cf_model.specs.Arrows.{Arrow, and_then, attempt, choose, each, noted, one, one_or, only_if, reading, ret, seq, then_do, unit, unless, unless_done, when_ok}
use Rattle.cf_model.specs.Trees.{Asked, Stops, Ends, Fork, Ret, Step, Tree, bind, mapped}
use Rattle.cf_model_room.specs.Rooms.{sure_count}
use Rattle.cf_check_ways.specs.Ways.{BecomesSure, Core, HadRoom, IsLaden, SamePoints, Alike, FailedIn, Grown, IsFront, IsPlain, IsSure, IsSureFrom, Parted, Reads, SameEnd, View}

-- ends of the first part and of the rest

pub ends_split : {S A B : Type 0} (p : Tree S A) (g : A → S → Tree S B) (b : B) (t : S) → Ends (bind p g) b t → (a : A) × (m : S) × Ends p a m × Ends (g a m) b t
ends_split (Ret a s) g b t h = (a, s, (refl, refl), h)
ends_split (Step s p) g b t h = ends_split p g b t h
ends_split (Fork p q) g b t (inl h) = let x = ends_split p g b t h in (x.0, x.1, inl x.2, x.3)
ends_split (Fork p q) g b t (inr h) = let x = ends_split q g b t h in (x.0, x.1, inr x.2, x.3)
ends_split (Asked k) g b t h = let x = ends_split (k h.0) g b t h.1 in (x.0, x.1, (h.0, x.2), x.3)

pub ends_of_mapped : {S T A : Type 0} (f : S → T) (p : Tree S A) (a : A) (t : T) → Ends (mapped f p) a t → (u : S) × Ends p a u × (t ≡ f u)
ends_of_mapped f (Ret a s) b t h = (s, (h.0, refl), h.1)
ends_of_mapped f (Step s p) b t h = ends_of_mapped f p b t h
ends_of_mapped f (Fork p q) b t (inl h) = let x = ends_of_mapped f p b t h in (x.0, inl x.1, x.2)
ends_of_mapped f (Fork p q) b t (inr h) = let x = ends_of_mapped f q b t h in (x.0, inr x.1, x.2)
ends_of_mapped f (Asked k) b t h = let x = ends_of_mapped f (k h.0) b t h.1 in (x.0, (h.0, x.1), x.2)

-- what happened grows

pub grown_none : {S : Type 0} (v : View S) (s : S) → Grown v s s
grown_none v s = record { notes = ([], sym (append-nil (v.notes s))); counted = omega arith; opens = refl; good = λ h. h }

both_counted : (s m t : ℕ) (xs ys : List Notice) → m ≤ s + length xs → t ≤ m + length ys → t ≤ s + length (xs ++ ys)
both_counted s m t xs ys a b = let e : length (xs ++ ys) ≡ length xs + length ys = length-append xs ys in omega (arith, a, b, e)

pub grown_more : {S : Type 0} (v : View S) (s m t : S) → Grown v s m → Grown v m t → Grown v s t
grown_more v s m t g h =
    record {
      notes = (g.notes.0 ++ h.notes.0, h.notes.1 ∙ ap (λ (xs : List Notice). xs ++ h.notes.0) g.notes.1 ∙ append_assoc (v.notes s) g.notes.0 h.notes.0);
      counted = both_counted (v.count s) (v.count m) (v.count t) g.notes.0 h.notes.0 g.counted h.counted;
      opens = h.opens ∙ g.opens;
      good = λ x. g.good (h.good x);
    }

longer : (xs more ys : List Notice) (before : List Notice) (n : Notice) (after : List Notice) → ys ≡ xs ++ more → xs ≡ before ++ n ∷ after → ys ≡ before ++ n ∷ (after ++ more)
longer xs more ys before n after e d = e ∙ ap (λ (zs : List Notice). zs ++ more) d ∙ append_assoc before (n ∷ after) more

failed_later : (x y x' y' more more' : List Notice) → x' ≡ x ++ more → y' ≡ y ++ more' → FailedIn x y → FailedIn x' y'
failed_later x y x' y' more more' e d f =
    record {
      before = f.before;
      message = f.message;
      number = f.number;
      reply = f.reply;
      lost = f.lost;
      after = f.after ++ more;
      others = f.others ++ more';
      first_is = longer x more x' f.before _ f.after e f.first_is;
      second_is = longer y more' y' f.before _ f.others d f.second_is;
    }

-- once parted they stay so
pub parted_later : {S : Type 0} (v : View S) (m t n u : S) → Grown v m t → Grown v n u → Parted (v.notes m) (v.notes n) → Parted (v.notes t) (v.notes u)
parted_later v m t n u g h (inl f) = inl (failed_later (v.notes m) (v.notes n) (v.notes t) (v.notes u) g.notes.0 h.notes.0 g.notes.1 h.notes.1 f)
parted_later v m t n u g h (inr f) = inr (failed_later (v.notes n) (v.notes m) (v.notes u) (v.notes t) h.notes.0 g.notes.0 h.notes.1 g.notes.1 f)

pub stops_split : {S A B : Type 0} (p : Tree S A) (g : A → S → Tree S B) (t : S) → Stops (bind p g) t → Stops p t ⊎ ((a : A) × (m : S) × Ends p a m × Stops (g a m) t)
stops_split (Ret a s) g t h = inr (a, s, (refl, refl), h)
stops_split (Step s p) g t (inl e) = inl (inl e)
stops_split {S} {A} {B} (Step s p) g t (inr h) = elim (stops_split p g t h) as (λ _. Stops (Step s p) t ⊎ ((a : A) × (m : S) × Ends (Step s p) a m × Stops (g a m) t)) [ inl x ↦ inl (inr x) | inr x ↦ inr x ]
stops_split {S} {A} {B} (Fork p q) g t (inl h) = elim (stops_split p g t h) as (λ _. Stops (Fork p q) t ⊎ ((a : A) × (m : S) × Ends (Fork p q) a m × Stops (g a m) t)) [ inl x ↦ inl (inl x) | inr x ↦ inr (x.0, x.1, inl x.2, x.3) ]
stops_split {S} {A} {B} (Fork p q) g t (inr h) = elim (stops_split q g t h) as (λ _. Stops (Fork p q) t ⊎ ((a : A) × (m : S) × Ends (Fork p q) a m × Stops (g a m) t)) [ inl x ↦ inl (inr x) | inr x ↦ inr (x.0, x.1, inr x.2, x.3) ]
stops_split {S} {A} {B} (Asked k) g t h =
    elim (stops_split (k h.0) g t h.1) as (λ _. Stops (Asked k) t ⊎ ((a : A) × (m : S) × Ends (Asked k) a m × Stops (g a m) t)) [ inl x ↦ inl (h.0, x) | inr x ↦ inr (x.0, x.1, (h.0, x.2), x.3) ]

pub stops_of_mapped : {S T A : Type 0} (f : S → T) (p : Tree S A) (t : T) → Stops (mapped f p) t → (u : S) × Stops p u × (t ≡ f u)
stops_of_mapped {S} {T} {A} f (Ret a s) t h = absurd h
stops_of_mapped f (Step s p) t (inl e) = (s, inl refl, e)
stops_of_mapped f (Step s p) t (inr h) = let x = stops_of_mapped f p t h in (x.0, inr x.1, x.2)
stops_of_mapped f (Fork p q) t (inl h) = let x = stops_of_mapped f p t h in (x.0, inl x.1, x.2)
stops_of_mapped f (Fork p q) t (inr h) = let x = stops_of_mapped f q t h in (x.0, inr x.1, x.2)
stops_of_mapped f (Asked k) t h = let x = stops_of_mapped f (k h.0) t h.1 in (x.0, (h.0, x.1), x.2)

-- what happened before alike states is the same
pub told_alike : {S : Type 0} (v : View S) (s o : S) → Alike v s o → v.notes s ≡ v.notes o
told_alike v s o e = sym (v.told s) ∙ ap v.notes e ∙ v.told o

-- a front of what is the front of more
pub front_grows : {S : Type 0} (v : View S) (t m u : S) → IsFront (v.notes t) (v.notes m) → Grown v m u → IsFront (v.notes t) (v.notes u)
front_grows v t m u f g = (f.0 ++ g.notes.0, g.notes.1 ∙ ap (λ (xs : List Notice). xs ++ g.notes.0) f.1 ∙ append_assoc (v.notes t) f.0 g.notes.0)

-- nothing happened, and more happens in the other
pub front_here : {S : Type 0} (v : View S) (t s o u : S) → v.notes t ≡ v.notes s → Alike v s o → Grown v o u → IsFront (v.notes t) (v.notes u)
front_here v t s o u same e g = (g.notes.0, g.notes.1 ∙ ap (λ (xs : List Notice). xs ++ g.notes.0) (sym (told_alike v s o e) ∙ sym same))

-- what commits are made of

pub becomes_none : (c : Core) → BecomesSure c c
becomes_none c = record { holds = refl; longer = ([], sym (append-nil c.log)); laden = λ l. l; later = λ l. omega arith }

pub becomes_same : (a b : Core) → b ≡ a → BecomesSure a b
becomes_same a b e = subst (λ (x : Core). BecomesSure a x) (sym e) (becomes_none a)

pub becomes_more : (a b c : Core) → BecomesSure a b → BecomesSure b c → BecomesSure a c
becomes_more a b c f g = record {
  holds = g.holds ∙ f.holds;
  longer = (f.longer.0 ++ g.longer.0, g.longer.1 ∙ ap (λ (xs : List _). xs ++ g.longer.0) f.longer.1 ∙ append_assoc a.log f.longer.0 g.longer.0);
  laden = λ l. g.laden (f.laden l);
  later = λ l.
      let one : sure_count a.points ≤ sure_count b.points = f.later l in
      let two : sure_count b.points ≤ sure_count c.points = g.later (f.laden l) in
      omega (arith, one, two);
}

-- points stay the same where both have the points that they had
pub same_points : (a b c d : Core) → c ≡ a → d ≡ b → SamePoints a b → SamePoints c d
same_points a b c d e f same = subst (λ (x : Core). SamePoints x d) (sym e) (subst (λ (x : Core). SamePoints a x) (sym f) same)

-- changes that had room had it
pub had_same : (a b : Core) → b ≡ a → HadRoom a → HadRoom b
had_same a b e h = subst HadRoom (sym e) h

-- what is sure from states of which something is known is so where more is
pub sure_known : {S A : Type 0} (v : View S) (May More : S → Type 0) (f : Arrow S A) → ((s : S) → More s → May s) → IsSureFrom v May f → IsSureFrom v More f
sure_known v May More f less h = record {
  grows = h.grows;
  one = h.one;
  halts = h.halts;
  stop = h.stop;
  rooms = h.rooms;
  keeps = h.keeps;
  fits = λ s more a t ends had. h.fits s (less s more) a t ends had;
}

pub sure_anywhere : {S A : Type 0} (v : View S) (May : S → Type 0) (f : Arrow S A) → IsSure v f → IsSureFrom v May f
sure_anywhere v May f h = sure_known v (λ s. Unit {0}) May f (λ s may. record {}) h

-- the words

pub sure_ret : {S A : Type 0} (v : View S) (a : A) → IsSure v (ret a)
sure_ret v a = record {
  grows = λ s b t h. subst (λ (x : _). Grown v s x) (sym h.1) (grown_none v s);
  one = λ s o e b c t u h k _ _. inl (h.0 ∙ sym k.0, ap v.fixed h.1 ∙ e ∙ ap v.fixed (sym k.1));
  halts = λ s t h. absurd h;
  stop = λ s o e t b u h k _ _. absurd h;
  rooms = λ s b t h. becomes_same (v.core s) (v.core t) (ap v.core h.1);
  keeps = λ s o e _ _ same b c t u h k _ _. inl (same_points (v.core s) (v.core o) (v.core t) (v.core u) (ap v.core h.1) (ap v.core k.1) same);
  fits = λ s may b t h had. had_same (v.core s) (v.core t) (ap v.core h.1) had;
}

-- what is known before the first part leads to what is to be known before the rest
pub sure_seq_from : {S A B : Type 0} (v : View S) (May Mid : S → Type 0) (f : Arrow S A) (g : A → Arrow S B) → ((s : S) → May s → (a : A) (m : S) → Ends (f s) a m → Mid m) → IsSureFrom v May f → ((a : A) → IsSureFrom v Mid (g a)) → IsSureFrom v May (seq f g)
sure_seq_from {S} {A} {B} v May Mid f g leads first rest = record {
  grows = λ s b t h. let x = ends_split (f s) g b t h in grown_more v s x.1 t (first.grows s x.0 x.1 x.2) ((rest x.0).grows x.1 b t x.3);
  one = λ s o e b c t u h k good well.
      let x = ends_split (f s) g b t h in
      let y = ends_split (f o) g c u k in
      let later : Grown v x.1 t = (rest x.0).grows x.1 b t x.3 in
      let late : Grown v y.1 u = (rest y.0).grows y.1 c u y.3 in
      joined x.0 y.0 x.1 y.1 b c t u x.3 y.3 later late good well (first.one s o e x.0 y.0 x.1 y.1 x.2 y.2 (later.good good) (late.good well));
  rooms = λ s b t h. let x = ends_split (f s) g b t h in becomes_more (v.core s) (v.core x.1) (v.core t) (first.rooms s x.0 x.1 x.2) ((rest x.0).rooms x.1 b t x.3);
  keeps = λ s o e laden laden_too same b c t u h k good well.
      let x = ends_split (f s) g b t h in
      let y = ends_split (f o) g c u k in
      let later : Grown v x.1 t = (rest x.0).grows x.1 b t x.3 in
      let late : Grown v y.1 u = (rest y.0).grows y.1 c u y.3 in
      kept x.0 y.0 x.1 y.1 b c t u x.3 y.3 later late good well ((first.rooms s x.0 x.1 x.2).laden laden) ((first.rooms o y.0 y.1 y.2).laden laden_too) (first.one s o e x.0 y.0 x.1 y.1 x.2 y.2 (later.good good) (late.good well))
      (first.keeps s o e laden laden_too same x.0 y.0 x.1 y.1 x.2 y.2 (later.good good) (late.good well));
  halts = λ s t h. elim (stops_split (f s) g t h) as (λ _. Grown v s t) [ inl x ↦ first.halts s t x | inr x ↦ grown_more v s x.1 t (first.grows s x.0 x.1 x.2) ((rest x.0).halts x.1 t x.3) ];
  stop = λ s o e t b u h k good well.
      let y = ends_split (f o) g b u k in
      let late : Grown v y.1 u = (rest y.0).grows y.1 b u y.3 in
      elim (stops_split (f s) g t h) as (λ _. IsFront (v.notes t) (v.notes u) ⊎ Parted (v.notes t) (v.notes u)) [
        | inl x ↦ stopped t y.1 u late (first.stop s o e t y.0 y.1 x y.2 good (late.good well))
        | inr x ↦
            let later : Grown v x.1 t = (rest x.0).halts x.1 t x.3 in
            halted x.0 y.0 x.1 y.1 t b u x.3 y.3 later late good well (first.one s o e x.0 y.0 x.1 y.1 x.2 y.2 (later.good good) (late.good well))
      ];
  fits = λ s may b t h had. let x = ends_split (f s) g b t h in (rest x.0).fits x.1 (leads s may x.0 x.1 x.2) b t x.3 (first.fits s may x.0 x.1 x.2 had);
}
  where
    kept : (a a' : A) (m n : S) (b c : B) (t u : S) → Ends (g a m) b t → Ends (g a' n) c u → Grown v m t → Grown v n u → v.good t ≡ true → v.good u ≡ true → IsLaden (v.core m) → IsLaden (v.core n)
        → SameEnd v a m a' n ⊎ Parted (v.notes m) (v.notes n) → SamePoints (v.core m) (v.core n) ⊎ Parted (v.notes m) (v.notes n) → SamePoints (v.core t) (v.core u) ⊎ Parted (v.notes t) (v.notes u)
    kept a a' m n b c t u h k later late good well laden laden_too (inl same) (inl points) = (rest a).keeps m n same.1 laden laden_too points b c t u h (subst (λ (x : A). Ends (g x n) c u) (sym same.0) k) good well
    kept a a' m n b c t u h k later late good well laden laden_too (inl same) (inr apart) = inr (parted_later v m t n u later late apart)
    kept a a' m n b c t u h k later late good well laden laden_too (inr apart) points = inr (parted_later v m t n u later late apart)

    stopped : (t n u : S) → Grown v n u → IsFront (v.notes t) (v.notes n) ⊎ Parted (v.notes t) (v.notes n) → IsFront (v.notes t) (v.notes u) ⊎ Parted (v.notes t) (v.notes u)
    stopped t n u late (inl front) = inl (front_grows v t n u front late)
    stopped t n u late (inr apart) = inr (parted_later v t t n u (grown_none v t) late apart)

    halted : (a a' : A) (m n t : S) (b : B) (u : S) → Stops (g a m) t → Ends (g a' n) b u → Grown v m t → Grown v n u → v.good t ≡ true → v.good u ≡ true → SameEnd v a m a' n ⊎ Parted (v.notes m) (v.notes n)
        → IsFront (v.notes t) (v.notes u) ⊎ Parted (v.notes t) (v.notes u)
    halted a a' m n t b u h k later late good well (inl same) = (rest a).stop m n same.1 t b u h (subst (λ (x : A). Ends (g x n) b u) (sym same.0) k) good well
    halted a a' m n t b u h k later late good well (inr apart) = inr (parted_later v m t n u later late apart)

    joined : (a a' : A) (m n : S) (b c : B) (t u : S) → Ends (g a m) b t → Ends (g a' n) c u → Grown v m t → Grown v n u → v.good t ≡ true → v.good u ≡ true
        → SameEnd v a m a' n ⊎ Parted (v.notes m) (v.notes n) → SameEnd v b t c u ⊎ Parted (v.notes t) (v.notes u)
    joined a a' m n b c t u h k later late good well (inl same) = (rest a).one m n same.1 b c t u h (subst (λ (x : A). Ends (g x n) c u) (sym same.0) k) good well
    joined a a' m n b c t u h k later late good well (inr apart) = inr (parted_later v m t n u later late apart)

pub sure_seq : {S A B : Type 0} (v : View S) (f : Arrow S A) (g : A → Arrow S B) → IsSure v f → ((a : A) → IsSure v (g a)) → IsSure v (seq f g)
sure_seq v f g first rest = sure_seq_from v (λ s. Unit {0}) (λ s. Unit {0}) f g (λ s may a m ends. record {}) first rest

-- the rest is sure from each state
pub sure_then_from : {S A B : Type 0} (v : View S) (May : S → Type 0) (f : Arrow S A) (g : Arrow S B) → IsSureFrom v May f → IsSure v g → IsSureFrom v May (then_do f g)
sure_then_from v May f g first rest = sure_seq_from v May (λ s. Unit {0}) f (λ _. g) (λ s may a m ends. record {}) first (λ a. rest)

pub sure_then : {S A B : Type 0} (v : View S) (f : Arrow S A) (g : Arrow S B) → IsSure v f → IsSure v g → IsSure v (then_do f g)
sure_then v f g first rest = sure_seq v f (λ _. g) first (λ a. rest)

pub sure_reading : {S A X : Type 0} (v : View S) (get : S → X) (f : X → Arrow S A) → Reads v get → ((x : X) → IsSure v (f x)) → IsSure v (reading get f)
sure_reading {S} {A} {X} v get f reads rest = record {
  grows = λ s a t h. (rest (get s)).grows s a t h;
  one = λ s o e a b t u h k good well. (rest (get s)).one s o e a b t u h (subst (λ (x : X). Ends (f x o) b u) (sym (reads s o e)) k) good well;
  rooms = λ s a t h. (rest (get s)).rooms s a t h;
  keeps = λ s o e laden laden_too same a b t u h k good well. (rest (get s)).keeps s o e laden laden_too same a b t u h (subst (λ (x : X). Ends (f x o) b u) (sym (reads s o e)) k) good well;
  halts = λ s t h. (rest (get s)).halts s t h;
  stop = λ s o e t b u h k good well. (rest (get s)).stop s o e t b u h (subst (λ (x : X). Ends (f x o) b u) (sym (reads s o e)) k) good well;
  fits = λ s may a t h had. (rest (get s)).fits s may a t h had;
}

pub sure_noted : {S : Type 0} (v : View S) (f : S → S) → IsPlain v f → IsSure v (noted f)
sure_noted v f plain = record {
  grows = λ s a t h. subst (λ (x : _). Grown v s x) (sym h.1) (plain.grows s);
  one = λ s o e a b t u h k good well. inl (h.0 ∙ sym k.0, ap v.fixed h.1 ∙ plain.alike s o e ∙ ap v.fixed (sym k.1));
  halts = λ s t h. absurd h;
  stop = λ s o e t b u h k _ _. absurd h;
  rooms = λ s a t h. becomes_same (v.core s) (v.core t) (ap v.core h.1 ∙ plain.core s);
  keeps = λ s o e _ _ same a b t u h k _ _. inl (same_points (v.core s) (v.core o) (v.core t) (v.core u) (ap v.core h.1 ∙ plain.core s) (ap v.core k.1 ∙ plain.core o) same);
  fits = λ s may a t h had. had_same (v.core s) (v.core t) (ap v.core h.1 ∙ plain.core s) had;
}

-- a stop in one step leaves a state in which as much has happened as before
stopped_in : {S : Type 0} (stop f : S → S) (s t : S) → Stops (one_or stop f s) t → t ≡ stop s
stopped_in stop f s t (inl e) = e
stopped_in stop f s t (inr h) = absurd h

pub sure_one_or : {S : Type 0} (v : View S) (stop f : S → S) → ((s : S) → Grown v s (stop s)) → ((s : S) → v.notes (stop s) ≡ v.notes s) → IsPlain v f → IsSure v (one_or stop f)
sure_one_or {S} v stop f quiet same plain = record {
  grows = (sure_noted v f plain).grows;
  one = (sure_noted v f plain).one;
  halts = λ s t h. subst (λ (x : S). Grown v s x) (sym (stopped_in stop f s t h)) (quiet s);
  stop = λ s o e t b u h k _ _. inl (front_here v t s o u (ap v.notes (stopped_in stop f s t h) ∙ same s) e ((sure_noted v f plain).grows o b u k));
  rooms = (sure_noted v f plain).rooms;
  keeps = (sure_noted v f plain).keeps;
  fits = (sure_noted v f plain).fits;
}

pub sure_one : {S : Type 0} (v : View S) (f : S → S) → IsPlain v f → IsSure v (one f)
sure_one v f plain = let x = sure_one_or v (λ s. s) f (grown_none v) (λ s. refl) plain in record { grows = x.grows; one = x.one; halts = x.halts; stop = x.stop; rooms = x.rooms; keeps = x.keeps; fits = x.fits }

pub sure_choose : {S A : Type 0} (v : View S) (b : Bool) (f g : Arrow S A) → IsSure v f → IsSure v g → IsSure v (choose b f g)
sure_choose v true f g h k = h
sure_choose v false f g h k = k

pub sure_unless : {S A : Type 0} (v : View S) (refused : Code → A) (c : Option Code) (f : Arrow S A) → IsSure v f → IsSure v (unless refused c f)
sure_unless v refused None f h = h
sure_unless v refused (Some c) f h = sure_ret v (refused c)

pub sure_when_ok : {S A : Type 0} (v : View S) (a : A) (f : Arrow S A) (b : Bool) → IsSure v f → IsSure v (when_ok a f b)
sure_when_ok v a f true h = h
sure_when_ok v a f false h = sure_ret v a

pub sure_each : {S X : Type 0} (v : View S) (f : X → Arrow S (Unit {0})) (xs : List X) → ((x : X) → IsSure v (f x)) → IsSure v (each f xs)
sure_each v f [] h = sure_ret v unit
sure_each v f (x ∷ xs) h = sure_then v (f x) (each f xs) (h x) (sure_each v f xs h)

pub sure_only_if : {S : Type 0} (v : View S) (b : Bool) (f : Arrow S Bool) → IsSure v f → IsSure v (only_if b f)
sure_only_if v true f h = h
sure_only_if v false f h = sure_ret v true

pub sure_and_then : {S : Type 0} (v : View S) (f g : Arrow S Bool) → IsSure v f → IsSure v g → IsSure v (and_then f g)
sure_and_then v f g h k = sure_seq v f (when_ok false g) h (λ a. sure_when_ok v false g a k)

sure_unless_done : {S : Type 0} (v : View S) (f : Arrow S (Unit {0})) (c : Option Code) → IsSure v f → IsSure v (unless_done f c)
sure_unless_done v f None h = sure_seq v f (λ _. ret None) h (λ a. sure_ret v None)
sure_unless_done v f (Some c) h = sure_ret v (Some c)

pub sure_attempt : {S : Type 0} (v : View S) (why : S → Option Code) (f : Arrow S (Unit {0})) → Reads v why → IsSure v f → IsSure v (attempt why f)
sure_attempt v why f reads h = sure_reading v why (unless_done f) reads (λ c. sure_unless_done v f c h)

no_more : (t s n : ℕ) → t ≡ s → t ≤ s + n
no_more t s n e = omega (arith, e)

-- what changes nothing but what is fixed, and notes nothing
pub plain_quiet : {S : Type 0} (v : View S) (f : S → S) → ((s : S) → v.fixed (f s) ≡ v.fixed (f (v.fixed s))) → ((s : S) → v.notes (f s) ≡ v.notes s) → ((s : S) → v.good (f s) ≡ v.good s) → ((s : S) → v.count (f s) ≡ v.count s) → ((s : S) → v.fails (f s) ≡ v.fails s) → ((s : S) → v.core (f s) ≡ v.core s) → IsPlain v f
plain_quiet v f fixed notes good count fails core = record {
  grows = λ s. record { notes = ([], notes s ∙ sym (append-nil (v.notes s))); counted = no_more (v.count (f s)) (v.count s) 0 (count s); opens = fails s; good = λ h. sym (good s) ∙ h };
  alike = λ s o e. fixed s ∙ ap (λ (x : _). v.fixed (f x)) e ∙ sym (fixed o);
  core = core;
}

-- what notes lines
pub plain_noting : {S : Type 0} (v : View S) (f : S → S) (more : S → List Notice) → ((s : S) → v.fixed (f s) ≡ v.fixed (f (v.fixed s))) → ((s : S) → v.notes (f s) ≡ v.notes s ++ more s) → ((s : S) → v.good (f s) ≡ v.good s) → ((s : S) → v.count (f s) ≡ v.count s) → ((s : S) → v.fails (f s) ≡ v.fails s) → ((s : S) → v.core (f s) ≡ v.core s) → IsPlain v f
plain_noting v f more fixed notes good count fails core = record {
  grows = λ s. record { notes = (more s, notes s); counted = no_more (v.count (f s)) (v.count s) (length (more s)) (count s); opens = fails s; good = λ h. sym (good s) ∙ h };
  alike = λ s o e. fixed s ∙ ap (λ (x : _). v.fixed (f x)) e ∙ sym (fixed o);
  core = core;
}

-- what is read is read of what is fixed
pub reads_fixed : {S X : Type 0} (v : View S) (get : S → X) → ((s : S) → get s ≡ get (v.fixed s)) → Reads v get
reads_fixed v get is = λ s o e. is s ∙ ap get e ∙ sym (is o)

-- a part that hangs on what is read of the state: it is sure where that was read
pub sure_at_from : {S A X : Type 0} (v : View S) (May : S → Type 0) (f : Arrow S A) (get : S → X) (g : X → Arrow S A) → ((s : S) → f s ≡ g (get s) s) → Reads v get → ((x : X) → IsSureFrom v (λ s. May s × (get s ≡ x)) (g x)) → IsSureFrom v May f
sure_at_from {S} {A} {X} v May f get g is reads rest = record {
  grows = λ s a t h. (rest (get s)).grows s a t (subst (λ (p : Tree S A). Ends p a t) (is s) h);
  one = λ s o e a b t u h k good well.
      (rest (get s)).one s o e a b t u (subst (λ (p : Tree S A). Ends p a t) (is s) h)
      (subst (λ (x : X). Ends (g x o) b u) (sym (reads s o e)) (subst (λ (p : Tree S A). Ends p b u) (is o) k)) good well;
  rooms = λ s a t h. (rest (get s)).rooms s a t (subst (λ (p : Tree S A). Ends p a t) (is s) h);
  keeps = λ s o e laden laden_too same a b t u h k good well.
      (rest (get s)).keeps s o e laden laden_too same a b t u (subst (λ (p : Tree S A). Ends p a t) (is s) h)
      (subst (λ (x : X). Ends (g x o) b u) (sym (reads s o e)) (subst (λ (p : Tree S A). Ends p b u) (is o) k)) good well;
  halts = λ s t h. (rest (get s)).halts s t (subst (λ (p : Tree S A). Stops p t) (is s) h);
  stop = λ s o e t b u h k good well.
      (rest (get s)).stop s o e t b u (subst (λ (p : Tree S A). Stops p t) (is s) h)
      (subst (λ (x : X). Ends (g x o) b u) (sym (reads s o e)) (subst (λ (p : Tree S A). Ends p b u) (is o) k)) good well;
  fits = λ s may a t h had. (rest (get s)).fits s (may, refl) a t (subst (λ (p : Tree S A). Ends p a t) (is s) h) had;
}

pub sure_at : {S A X : Type 0} (v : View S) (f : Arrow S A) (get : S → X) (g : X → Arrow S A) → ((s : S) → f s ≡ g (get s) s) → Reads v get → ((x : X) → IsSure v (g x)) → IsSure v f
sure_at v f get g is reads rest = sure_at_from v (λ s. Unit {0}) f get g is reads (λ x. sure_anywhere v (λ s. Unit {0} × (get s ≡ x)) (g x) (rest x))

-- what is done only where nothing refuses it
pub sure_unless_from : {S A : Type 0} (v : View S) (why : S → Option Code) (refused : Code → A) (f : Arrow S A) → Reads v why → IsSureFrom v (λ s. why s ≡ None) f → IsSure v (λ s. unless refused (why s) f s)
sure_unless_from {S} {A} v why refused f reads h = sure_at_from v (λ s. Unit {0}) (λ s. unless refused (why s) f s) why (λ c. unless refused c f) (λ s. refl) reads by
  where
    by : (c : Option Code) → IsSureFrom v (λ s. Unit {0} × (why s ≡ c)) (unless refused c f)
    by None = sure_known v (λ s. why s ≡ None) (λ s. Unit {0} × (why s ≡ None)) f (λ s x. x.1) h
    by (Some c) = sure_anywhere v (λ s. Unit {0} × (why s ≡ Some c)) (ret (refused c)) (sure_ret v (refused c))

-- so of what may be left out
pub sure_attempt_from : {S : Type 0} (v : View S) (why : S → Option Code) (f : Arrow S (Unit {0})) → Reads v why → IsSureFrom v (λ s. why s ≡ None) f → IsSure v (attempt why f)
sure_attempt_from {S} v why f reads h = sure_at_from v (λ s. Unit {0}) (attempt why f) why (unless_done f) (λ s. refl) reads by
  where
    by : (c : Option Code) → IsSureFrom v (λ s. Unit {0} × (why s ≡ c)) (unless_done f c)
    by None = sure_then_from v (λ s. Unit {0} × (why s ≡ None)) f (ret None) (sure_known v (λ s. why s ≡ None) (λ s. Unit {0} × (why s ≡ None)) f (λ s x. x.1) h) (sure_ret v None)
    by (Some c) = sure_anywhere v (λ s. Unit {0} × (why s ≡ Some c)) (ret (Some c)) (sure_ret v (Some c))

-- a part that hangs on what is fixed of the state
pub sure_fixed : {S A : Type 0} (v : View S) (f : Arrow S A) (g : S → Arrow S A) → ((s : S) → f s ≡ g (v.fixed s) s) → ((x : S) → IsSure v (g x)) → IsSure v f
sure_fixed v f g is rest = sure_at v f v.fixed g is (λ s o e. e) rest
