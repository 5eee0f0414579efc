-- Acts of a provider one after the other.
use Rattle.std.proofs.Common.{◌≡◌, Bool, true, false, List, [], ◌∷◌, ◌++◌, refl, sym, ◌∙◌, ap, subst, append-nil, append_assoc}
use Rattle.cf_base.specs.declared.notices.Notice.{Notice}
use Rattle.cf_disk.specs.Disk.{State}
use Rattle.cf_filter_desk.specs.Desks.{Desk}
use Rattle.cf_filter_machine.specs.Held.{Held}
use Rattle.cf_filter_machine.specs.Lasting.{Lasts, Moved}
use Rattle.cf_engine_host.specs.Callbacks.{NoneFailed}
use Rattle.cf_filter.specs.Porting.{Goes, GoneTo, StaysBroken, notes_of}
use Rattle.cf_filter_machine.specs.Sensing.{Rose, Stands, Stopped, rose_on, sense}
use Rattle.cf_filter_machine.specs.Showing.{Shows}
use Rattle.cf_model.specs.Ports.{Act, Acts, Did, Failed, HasFailed, Noted, noted_by}
use Rattle.cf_model.specs.State.{Filter, Volume, with_notes}
use Rattle.cf_volume.specs.Calls.{Runs}
use Rattle.cf_volume_points.specs.Known.{Known}
use Rattle.cf_volume_points.specs.Standing.{clusters_on}

pub false_true : {A : Type 0} → false ≡ true → A
false_true e = let bad : ⊥ = cc in absurd bad

-- lists of acts

none_both : (acts more : List Act) → NoneFailed acts → NoneFailed more → NoneFailed (acts ++ more)
none_both [] more h k = k
none_both (Did seen op answer ∷ acts) more h k = none_both acts more h k
none_both (Failed seen op ∷ acts) more h k = absurd h
none_both (Noted n ∷ acts) more h k = none_both acts more h k

failed_first : (acts more : List Act) → HasFailed acts → HasFailed (acts ++ more)
failed_first [] more h = absurd h
failed_first (Did seen op answer ∷ acts) more h = failed_first acts more h
failed_first (Failed seen op ∷ acts) more h = record {}
failed_first (Noted n ∷ acts) more h = failed_first acts more h

failed_later : (acts more : List Act) → HasFailed more → HasFailed (acts ++ more)
failed_later [] more h = h
failed_later (Did seen op answer ∷ acts) more h = failed_later acts more h
failed_later (Failed seen op ∷ acts) more h = record {}
failed_later (Noted n ∷ acts) more h = failed_later acts more h

notes_both : (acts more : List Act) → notes_of (acts ++ more) ≡ notes_of acts ++ notes_of more
notes_both [] more = refl
notes_both (Did seen op answer ∷ acts) more = notes_both acts more
notes_both (Failed seen op ∷ acts) more = notes_both acts more
notes_both (Noted n ∷ acts) more = ap (λ (l : List Notice). n ∷ l) (notes_both acts more)

noted_both : (acts more : List Act) (s : Filter) → noted_by (acts ++ more) s ≡ noted_by more (noted_by acts s)
noted_both [] more s = refl
noted_both (Did seen op answer ∷ acts) more s = noted_both acts more s
noted_both (Failed seen op ∷ acts) more s = noted_both acts more s
noted_both (Noted n ∷ acts) more s = noted_both acts more (with_notes (n ∷ []) s)

pub noted_is : (acts : List Act) (s : Filter) → noted_by acts s ≡ record s { notes = s.notes ++ notes_of acts }
noted_is [] s = ap (λ (l : List Notice). record s { notes = l }) (sym (append-nil s.notes))
noted_is (Did seen op answer ∷ acts) s = noted_is acts s
noted_is (Failed seen op ∷ acts) s = noted_is acts s
noted_is (Noted n ∷ acts) s = noted_is acts (with_notes (n ∷ []) s) ∙ ap (λ (l : List Notice). record s { notes = l }) (append_assoc s.notes (n ∷ []) (notes_of acts))

acts_on : (s : Filter) (acts : List Act) (t : Filter) (more : List Act) (u : Filter) → Acts s acts t → NoneFailed acts → Acts t more u → Acts s (acts ++ more) u
acts_on s [] t more u h none k = subst (λ (x : Filter). Acts x more u) h k
acts_on s (Did seen op answer ∷ acts) t more u h none k = (h.0, h.1, acts_on h.0 acts t more u h.2 none k)
acts_on s (Failed seen op ∷ acts) t more u h none k = absurd none
acts_on s (Noted n ∷ acts) t more u h none k = acts_on (with_notes (n ∷ []) s) acts t more u h none k

acts_noted : (s : Filter) (acts : List Act) (t : Filter) (more : List Act) → Acts s acts t → HasFailed acts → Acts s (acts ++ more) (noted_by more t)
acts_noted s [] t more h failed = absurd failed
acts_noted s (Did seen op answer ∷ acts) t more h failed = (h.0, h.1, acts_noted h.0 acts t more h.2 failed)
acts_noted s (Failed seen op ∷ acts) t more h failed = (h.0, h.1, ap (noted_by more) h.2 ∙ sym (noted_both acts more h.0))
acts_noted s (Noted n ∷ acts) t more h failed = acts_noted (with_notes (n ∷ []) s) acts t more h failed

module _ {D : Type 0} (state : D → State) where
  still_moved : (d e f : D) (v w u : Volume) → f ≡ e → u ≡ w → Moved (state d) (state e) v w → Moved (state d) (state f) v u
  still_moved d e f v w u same vol m = subst (λ (z : D). Moved (state d) (state z) v u) (sym same) (subst (λ (z : Volume). Moved (state d) (state e) v z) (sym vol) m)

  still_lasts : (e f : D) (w u : Volume) → f ≡ e → u ≡ w → Lasts (state e) w → Lasts (state f) u
  still_lasts e f w u same vol h = subst (λ (z : D). Lasts (state z) u) (sym same) (subst (λ (z : Volume). Lasts (state e) z) (sym vol) h)

  -- whatever is left, a restart opens a point of the state
  pub gone_lasts : (broken lost : Bool) (acts : List Act) (x : Held D) (s : Filter) (y : Held D) (t : Filter) → GoneTo state broken lost acts x s y t → Lasts (state y.disk) t.volume
  gone_lasts false lost acts x s y t h = (sense state).endures y t h.2
  gone_lasts true false acts x s y t h = h.2.lasts
  gone_lasts true true acts x s y t h = h

  pub goes_nowhere : (x : Held D) → Goes state x [] x
  goes_nowhere x = record {
    leads = λ s h. (s, (sense state).stays x s h, subst (λ (b : Bool). GoneTo state b x.desk.lost [] x s x s) (sym (ap (λ (d : Desk). d.broken) h.desk)) (refl, record {}, h));
    still = λ broken. record { broken = broken; disk = refl; known = refl; lost = λ lost. lost; desk = λ lost. ap (λ (l : List Notice). record x.desk { notes = l }) (sym (append-nil x.desk.notes)) };
  }

  stays_on : (x y z : Held D) (acts more : List Act) → StaysBroken x acts y → StaysBroken y more z → StaysBroken x (acts ++ more) z
  stays_on x y z acts more g h = record {
    broken = h.broken;
    disk = h.disk ∙ g.disk;
    known = h.known ∙ g.known;
    lost = λ lost. h.lost (g.lost lost);
    desk = λ kept. by y.desk.lost refl kept;
  }
    where
      by : (l : Bool) → y.desk.lost ≡ l → z.desk.lost ≡ false → z.desk ≡ record x.desk { notes = x.desk.notes ++ notes_of (acts ++ more) }
      by true e kept = false_true (sym kept ∙ h.lost e)
      by false e kept =
          h.desk kept ∙ ap (λ (d : Desk). record d { notes = d.notes ++ notes_of more }) (g.desk e)
          ∙ ap (λ (l : List Notice). record x.desk { notes = l }) (append_assoc x.desk.notes (notes_of acts) (notes_of more) ∙ ap (λ (l : List Notice). x.desk.notes ++ l) (sym (notes_both acts more)))

  -- after acts of which none failed
  gone_on : (broken lost : Bool) (acts more : List Act) (x : Held D) (s : Filter) (y : Held D) (t : Filter) (z : Held D) (u : Filter) → Runs (state x.disk) (state y.disk) → Acts s acts t → NoneFailed acts → GoneTo state broken lost more y t z u
      → GoneTo state broken lost (acts ++ more) x s z u
  gone_on false lost acts more x s y t z u runs h none k = (acts_on s acts t more u h none k.0, none_both acts more none k.1, k.2)
  gone_on true false acts more x s y t z u runs h none k =
      (acts_on s acts t more u h none k.0, failed_later acts more k.1, k.2, rose_on (state x.disk) (state y.disk) (state z.disk) runs k.3)
  gone_on true true acts more x s y t z u runs h none k = k

  -- after acts that met Device
  gone_noted : (lost : Bool) (acts more : List Act) (s t : Filter) (x y z : Held D) → z.desk.lost ≡ lost → Acts s acts t → HasFailed acts → Stopped state y t → Rose (state x.disk) (state y.disk) → StaysBroken y more z → GoneTo state true lost (acts ++ more) x s z (noted_by more t)
  gone_noted true acts more s t x y z e h failed stopped rose stays = still_lasts y.disk z.disk t.volume (noted_by more t).volume stays.disk (ap (λ (x : Filter). x.volume) (noted_is more t)) stopped.lasts
  gone_noted false acts more s t x y z e h failed stopped rose stays =
      let desk = stays.desk e in let is = noted_is more t in (
        acts_noted s acts t more h failed,
        failed_first acts more failed,
        record {
          notes = ap (λ (d : Desk). d.notes) desk ∙ ap (λ (l : List Notice). l ++ notes_of more) stopped.notes ∙ sym (ap (λ (x : Filter). x.notes) is);
          policy = ap (λ (d : Desk). d.policy) desk ∙ stopped.policy ∙ sym (ap (λ (x : Filter). x.policy) is);
          connected = ap (λ (d : Desk). d.connected) desk ∙ stopped.connected ∙ sym (ap (λ (x : Filter). x.connected) is);
          shows = subst (λ (d : D). Shows (clusters_on (state d).seen) z.known (noted_by more t).volume) (sym stays.disk)
              (subst (λ (k : Known). Shows (clusters_on (state y.disk).seen) k (noted_by more t).volume) (sym stays.known)
              (subst (λ (v : Volume). Shows (clusters_on (state y.disk).seen) y.known v) (sym (ap (λ (x : Filter). x.volume) is)) stopped.shows));
          lasts = still_lasts y.disk z.disk t.volume (noted_by more t).volume stays.disk (ap (λ (x : Filter). x.volume) is) stopped.lasts;
        },
        subst (λ (d : D). Rose (state x.disk) (state d)) (sym stays.disk) rose,
      )

  -- after out of memory
  gone_lost : (acts : List Act) (s t : Filter) (x y z : Held D) (broken lost : Bool) → broken ≡ true → lost ≡ true → z.disk ≡ y.disk → Lasts (state y.disk) t.volume → GoneTo state broken lost acts x s z t
  gone_lost acts s t x y z true true b l disk h = still_lasts y.disk z.disk t.volume t.volume disk refl h
  gone_lost acts s t x y z true false b l disk h = false_true l
  gone_lost acts s t x y z false lost b l disk h = false_true b

  pub goes_further : (x y z : Held D) (acts more : List Act) → Goes state x acts y → Goes state y more z → Goes state x (acts ++ more) z
  goes_further x y z acts more g h = record {
    leads = λ s i. let a = g.leads s i in by s i a.0 a.1 y.desk.broken y.desk.lost refl refl a.2;
    still = λ broken. let a = g.still broken in stays_on x y z acts more a (h.still a.broken);
  }
    where
      by : (s : Filter) → Stands state x s → (t : Filter) → Moved (state x.disk) (state y.disk) s.volume t.volume → (b l : Bool) → y.desk.broken ≡ b → y.desk.lost ≡ l → GoneTo state b l acts x s y t
          → (u : Filter) × Moved (state x.disk) (state z.disk) s.volume u.volume × GoneTo state z.desk.broken z.desk.lost (acts ++ more) x s z u
      by s i t m false l e f gone =
          let b = h.leads t gone.2 in
          (b.0, (sense state).goes_on x y z s t b.0 m b.1, gone_on z.desk.broken z.desk.lost acts more x s y t z b.0 m.runs gone.0 gone.1 b.2)
      by s i t m true false e f gone =
          let stays = h.still e in (
            noted_by more t,
            still_moved x.disk y.disk z.disk s.volume t.volume (noted_by more t).volume stays.disk (ap (λ (w : Filter). w.volume) (noted_is more t)) m,
            subst (λ (b : Bool). GoneTo state b z.desk.lost (acts ++ more) x s z (noted_by more t)) (sym stays.broken) (gone_noted z.desk.lost acts more s t x y z refl gone.0 gone.1 gone.2 gone.3 stays),
          )
      by s i t m true true e f gone =
          let stays = h.still e in
          (t, still_moved x.disk y.disk z.disk s.volume t.volume t.volume stays.disk refl m, gone_lost (acts ++ more) s t x y z z.desk.broken z.desk.lost stays.broken (stays.lost f) stays.disk gone)
