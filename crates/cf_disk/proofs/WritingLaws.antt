-- How the flags of pages go on, by the marks and the pool in which they lie.
use Rattle.std.proofs.Common.{◌≡◌, ◌⊎◌, inl, inr, ℕ, zero, suc, ◌+◌, ◌-◌, ◌*◌, ◌^◌, ◌<◌, ◌≤◌, Bool, true, false, List, [], ◌∷◌, ◌++◌, length, map, get_or, set, take, drop, replicate, refl, sym, ◌∙◌, ap, arith}
use Rattle.std.proofs.lemmas.Bool.{cases_eq, cases_lt}
use Rattle.std.proofs.lemmas.List.{ext_get_or, get_or_default, get_or-drop, get_or-map, get_or-set_other, get_or-set_same, get_or-replicate, get_or-take, get_or_past, get_or_push, get_or_append_left, length-drop, length-map, length-replicate, length-set, length-take, length_push, map-set, set-get_or}
use Rattle.cf_disk.specs.Fronts.{filled}
use Rattle.cf_disk.specs.Splice.{over}
use Rattle.cf_disk.specs.Writing.{clean, flags_of, written_in, IsWriting}
use Rattle.cf_disk.specs.declared.written_bytes.PageMark.{PageMark}
use Rattle.cf_disk.specs.declared.written_bytes.PageMark.TheVariants.{Clean, Whole, Part}
use Rattle.cf_disk.proofs.FrontLaws.{filled_any, length-filled}
use Rattle.cf_disk.proofs.ImageLaws.{flags_size, flag_before, flag_in, flag_after}

-- a page with other flags than those of the mark is no clean one
clean_set : (marks : List PageMark) (k s : ℕ) → k < length marks → get_or marks k Clean ≡ Clean → suc (clean (set marks k (Part s))) ≡ clean marks
clean_set [] k s lt is = absurd (omega arith)
clean_set (Clean ∷ marks) zero s lt is = refl
clean_set (Clean ∷ marks) (suc k) s lt is = ap suc (clean_set marks k s (omega arith) is)
clean_set (Whole ∷ marks) zero s lt is = let z : Whole ≡ Clean = is in absurd cc
clean_set (Part t ∷ marks) zero s lt is = let z : Part t ≡ Clean = is in absurd cc
clean_set (Whole ∷ marks) (suc k) s lt is = clean_set marks k s (omega arith) is
clean_set (Part t ∷ marks) (suc k) s lt is = clean_set marks k s (omega arith) is

-- and no more pages are clean by a page that is written whole
clean_whole : (marks : List PageMark) (k : ℕ) → clean (set marks k Whole) ≤ clean marks
clean_whole [] k = omega arith
clean_whole (Clean ∷ marks) zero = omega arith
clean_whole (Whole ∷ marks) zero = omega arith
clean_whole (Part t ∷ marks) zero = omega arith
clean_whole (Clean ∷ marks) (suc k) = omega (arith, clean_whole marks k)
clean_whole (Whole ∷ marks) (suc k) = clean_whole marks k
clean_whole (Part t ∷ marks) (suc k) = clean_whole marks k

clean_push : (marks : List PageMark) → clean (marks ++ Clean ∷ []) ≡ suc (clean marks)
clean_push [] = refl
clean_push (Clean ∷ marks) = ap suc (clean_push marks)
clean_push (Whole ∷ marks) = clean_push marks
clean_push (Part t ∷ marks) = clean_push marks

flags_size_of : (flags : List Bool) (m : PageMark) → ((s : ℕ) → m ≡ Part s → s + 4096 ≤ length flags) → length (flags_of flags m) ≡ 4096
flags_size_of flags Clean inside = length-replicate 4096 false
flags_size_of flags Whole inside = length-replicate 4096 true
flags_size_of flags (Part s) inside = omega (arith, inside s refl, length-take 4096 (drop s flags), length-drop s flags)

-- the flags of a page among all
page_at : (flags : List Bool) (marks : List PageMark) (k : ℕ) → k < length marks → get_or (map (flags_of flags) marks) k [] ≡ flags_of flags (get_or marks k Clean)
page_at flags marks k lt = get_or-map (flags_of flags) marks k Clean [] lt

-- that of a flag in the pool
pool_at : (flags : List Bool) (s i : ℕ) → i < 4096 → get_or (take 4096 (drop s flags)) i false ≡ get_or flags (s + i) false
pool_at flags s i lt = get_or-take 4096 (drop s flags) i false lt ∙ get_or-drop s flags i false

-- no page
pub written_none : (most marks_room flags_room : ℕ) (marks : List PageMark) (flags : List Bool) → marks ≡ [] → flags ≡ [] → most * 4096 + 4096 < 2 ^ 64 → most ≤ marks_room → most * 4096 ≤ flags_room
    → IsWriting most marks_room flags_room marks flags
written_none most marks_room flags_room marks flags marks_are flags_are small marks_enough flags_enough = record {
  inside = λ k s is. let z : Clean ≡ Part s = sym (ap (λ (l : List PageMark). get_or l k Clean) marks_are) ∙ is in absurd cc;
  apart = λ j k s t is js ne. let z : Clean ≡ Part s = sym (ap (λ (l : List PageMark). get_or l j Clean) marks_are) ∙ is in absurd cc;
  few = omega (arith, ap length flags_are, ap clean marks_are);
  fits = omega (arith, ap length marks_are);
  small = small;
  marks_enough = marks_enough;
  flags_enough = flags_enough;
}

pub written_nothing : (most : ℕ) (marks : List PageMark) (flags : List Bool) → marks ≡ [] → written_in most marks flags ≡ record { most = most; pages = [] }
written_nothing most marks flags is = ap (λ (l : List PageMark). written_in most l flags) is

-- the same lists, with more room
pub written_same : (most marks_room flags_room marks_more flags_more : ℕ) (marks marks_now : List PageMark) (flags flags_now : List Bool) → IsWriting most marks_room flags_room marks flags
    → marks_now ≡ marks → flags_now ≡ flags → marks_room ≤ marks_more → flags_room ≤ flags_more → IsWriting most marks_more flags_more marks_now flags_now
written_same most marks_room flags_room marks_more flags_more marks marks_now flags flags_now w marks_are flags_are marks_le flags_le = record {
  inside = λ k s is. omega (arith, w.inside k s (was k s is), ap length flags_are);
  apart = λ j k s t is js ne. w.apart j k s t (was j s is) (was k t js) ne;
  few = omega (arith, w.few, ap length flags_are, ap length marks_are, ap clean marks_are);
  fits = omega (arith, w.fits, ap length marks_are);
  small = w.small;
  marks_enough = omega (arith, w.marks_enough, marks_le);
  flags_enough = omega (arith, w.flags_enough, flags_le);
}
  where
    was : (k s : ℕ) → get_or marks_now k Clean ≡ Part s → get_or marks k Clean ≡ Part s
    was k s is = sym (ap (λ (l : List PageMark). get_or l k Clean) marks_are) ∙ is

module _ (most marks_room flags_room : ℕ) (marks : List PageMark) (flags : List Bool) (w : IsWriting most marks_room flags_room marks flags) where
  -- one page more
  last : (k s : ℕ) → get_or (marks ++ Clean ∷ []) k Clean ≡ Part s → get_or marks k Clean ≡ Part s
  last k s is = elim (cases_lt k (length marks)) [
    | inl low ↦ sym (get_or_append_left marks (Clean ∷ []) Clean k low) ∙ is
    | inr high ↦ elim (cases_eq k (length marks)) [
      | inl same ↦ let z : Clean ≡ Part s = sym (get_or_push marks Clean Clean k (sym same)) ∙ is in absurd cc
      | inr other ↦ let z : Clean ≡ Part s = sym (get_or_past (marks ++ Clean ∷ []) k Clean (omega (arith, high, other, length_push marks Clean))) ∙ is in absurd cc
    ]
  ]

  pub pushed_writing : length marks < most → IsWriting most marks_room flags_room (marks ++ Clean ∷ []) flags
  pushed_writing lt = record {
    inside = λ k s is. w.inside k s (last k s is);
    apart = λ j k s t is js ne. w.apart j k s t (last j s is) (last k t js) ne;
    few = omega (arith, w.few, length_push marks Clean, clean_push marks);
    fits = omega (arith, lt, length_push marks Clean);
    small = w.small;
    marks_enough = w.marks_enough;
    flags_enough = w.flags_enough;
  }

  -- the flags of a page fill one
  pub page_size : (k : ℕ) → k < length marks → length (get_or (map (flags_of flags) marks) k []) ≡ 4096
  page_size k lt = ap length (page_at flags marks k lt) ∙ flags_size_of flags (get_or marks k Clean) (w.inside k)

  -- a page is written whole
  set_whole : (j k s : ℕ) → get_or (set marks k Whole) j Clean ≡ Part s → k < length marks → get_or marks j Clean ≡ Part s
  set_whole j k s is lt = elim (cases_eq j k) [
    | inl same ↦
        let z : Whole ≡ Part s = sym (get_or-set_same marks k Whole Clean lt) ∙ ap (λ (p : ℕ). get_or (set marks k Whole) p Clean) (sym same) ∙ is in absurd cc
    | inr other ↦ sym (get_or-set_other marks k j Whole Clean other) ∙ is
  ]

  pub whole_writing : (k : ℕ) → k < length marks → IsWriting most marks_room flags_room (set marks k Whole) flags
  whole_writing k lt = record {
    inside = λ j s is. w.inside j s (set_whole j k s is lt);
    apart = λ i j s t is js ne. w.apart i j s t (set_whole i k s is lt) (set_whole j k t js lt) ne;
    few = omega (arith, w.few, length-set marks k Whole, clean_whole marks k);
    fits = omega (arith, w.fits, length-set marks k Whole);
    small = w.small;
    marks_enough = w.marks_enough;
    flags_enough = w.flags_enough;
  }

  pub whole_page : (k from to : ℕ) → k < length marks → from ≤ to → to ≤ 4096 → to - from ≡ 4096
      → map (flags_of flags) (set marks k Whole) ≡ set (map (flags_of flags) marks) k (over from (replicate (to - from) true) (get_or (map (flags_of flags) marks) k []))
  whole_page k from to lt le inside size =
      map-set (flags_of flags) marks k Whole
      ∙ ap (λ (page : List Bool). set (map (flags_of flags) marks) k page) (all_set (get_or (map (flags_of flags) marks) k []) from to (page_size k lt) (omega (arith, inside, size)) (omega (arith, inside, size)))
    where
      all_set : (page : List Bool) (from to : ℕ) → length page ≡ 4096 → from ≡ 0 → to ≡ 4096 → replicate 4096 true ≡ over from (replicate (to - from) true) page
      all_set page from to size first end =
          let room : from + (to - from) ≤ length page = omega (arith, size, first, end) in
          ext_get_or false (replicate 4096 true) (over from (replicate (to - from) true) page)
          (omega (arith, length-replicate 4096 true, flags_size true from (to - from) page room, size))
          (λ i lt. get_or-replicate 4096 i true false (omega (arith, lt, length-replicate 4096 true)) ∙ sym (flag_in true from (to - from) page room i (omega (arith, first)) (omega (arith, lt, length-replicate 4096 true, first, end))))

  -- a page that was written whole stays so
  pub whole_again : (k from to : ℕ) → k < length marks → from ≤ to → to ≤ 4096 → get_or marks k Clean ≡ Whole
      → map (flags_of flags) marks ≡ set (map (flags_of flags) marks) k (over from (replicate (to - from) true) (get_or (map (flags_of flags) marks) k []))
  whole_again k from to lt le inside is =
      sym (set-get_or (map (flags_of flags) marks) k [])
      ∙ ap (λ (page : List Bool). set (map (flags_of flags) marks) k page) (sym (still (get_or (map (flags_of flags) marks) k []) (page_at flags marks k lt ∙ ap (flags_of flags) is)))
    where
      still : (page : List Bool) → page ≡ replicate 4096 true → over from (replicate (to - from) true) page ≡ page
      still page is =
          let size : length page ≡ 4096 = ap length is ∙ length-replicate 4096 true in
          let room : from + (to - from) ≤ length page = omega (arith, size, le, inside) in
          ext_get_or false (over from (replicate (to - from) true) page) page (flags_size true from (to - from) page room)
          (λ i lt. elim (cases_lt i from) [
            | inl before ↦ flag_before true from (to - from) page room i before
            | inr above ↦ elim (cases_lt i to) [
              | inl below ↦
                  flag_in true from (to - from) page room i above (omega (arith, below))
                  ∙ sym (ap (λ (l : List Bool). get_or l i false) is ∙ get_or-replicate 4096 i true false (omega (arith, below, inside)))
              | inr after ↦ flag_after true from (to - from) page room i (omega (arith, after, le))
            ]
          ])

  -- a page has flags of its own, and some are set
  module _ (k s from to : ℕ) (lt : k < length marks) (is : get_or marks k Clean ≡ Part s) (le : from ≤ to) (inside : to ≤ 4096) where
    part_here : s + 4096 ≤ length flags
    part_here = w.inside k s is

    pub part_room : s + from + (to - from) ≤ length flags
    part_room = omega (arith, part_here, le, inside)

    pub part_writing : IsWriting most marks_room flags_room marks (over (s + from) (replicate (to - from) true) flags)
    part_writing = record {
      inside = λ j t js. omega (arith, w.inside j t js, flags_size true (s + from) (to - from) flags part_room);
      apart = w.apart;
      few = omega (arith, w.few, flags_size true (s + from) (to - from) flags part_room);
      fits = w.fits;
      small = w.small;
      marks_enough = w.marks_enough;
      flags_enough = w.flags_enough;
    }

    -- the flags of the pool now
    abbrev set_now : List Bool
    set_now = over (s + from) (replicate (to - from) true) flags

    -- what another page shows
    elsewhere : (j : ℕ) (m : PageMark) → get_or marks j Clean ≡ m → (j ≡ k → ⊥) → flags_of set_now m ≡ flags_of flags m
    elsewhere j Clean js ne = refl
    elsewhere j Whole js ne = refl
    elsewhere j (Part t) js ne =
        let size : length set_now ≡ length flags = flags_size true (s + from) (to - from) flags part_room in
        ext_get_or false (take 4096 (drop t set_now)) (take 4096 (drop t flags))
        (omega (
          arith,
          length-take 4096 (drop t set_now),
          length-drop t set_now,
          length-take 4096 (drop t flags),
          length-drop t flags,
          size,
        ))
        (λ i low. let lt : i < 4096 = omega (arith, low, length-take 4096 (drop t set_now)) in
        pool_at set_now t i lt
        ∙ elim (w.apart j k t s js is ne) [
          | inl before ↦ flag_before true (s + from) (to - from) flags part_room (t + i) (omega (arith, before, lt))
          | inr behind ↦ flag_after true (s + from) (to - from) flags part_room (t + i) (omega (arith, behind, inside, le))
        ]
        ∙ sym (pool_at flags t i lt))

    -- what it shows itself
    here_set : take 4096 (drop s set_now) ≡ over from (replicate (to - from) true) (take 4096 (drop s flags))
    here_set =
        let size : length set_now ≡ length flags = flags_size true (s + from) (to - from) flags part_room in
        let was : length (take 4096 (drop s flags)) ≡ 4096 = omega (arith, length-take 4096 (drop s flags), length-drop s flags, part_here) in
        let room : from + (to - from) ≤ length (take 4096 (drop s flags)) = omega (arith, was, le, inside) in
        ext_get_or false (take 4096 (drop s set_now)) (over from (replicate (to - from) true) (take 4096 (drop s flags)))
        (omega (
          arith,
          length-take 4096 (drop s set_now),
          length-drop s set_now,
          flags_size true from (to - from) (take 4096 (drop s flags)) room,
          was,
          size,
          part_here,
        ))
        (λ i low. let lt : i < 4096 = omega (arith, low, length-take 4096 (drop s set_now)) in
        pool_at set_now s i lt
        ∙ elim (cases_lt i from) [
          | inl before ↦
              flag_before true (s + from) (to - from) flags part_room (s + i) (omega (arith, before))
              ∙ sym (flag_before true from (to - from) (take 4096 (drop s flags)) room i before ∙ pool_at flags s i lt)
          | inr above ↦ elim (cases_lt i to) [
            | inl below ↦
                flag_in true (s + from) (to - from) flags part_room (s + i) (omega (arith, above)) (omega (arith, below))
                ∙ sym (flag_in true from (to - from) (take 4096 (drop s flags)) room i above (omega (arith, below)))
            | inr after ↦
                flag_after true (s + from) (to - from) flags part_room (s + i) (omega (arith, after, le))
                ∙ sym (flag_after true from (to - from) (take 4096 (drop s flags)) room i (omega (arith, after, le)) ∙ pool_at flags s i lt)
          ]
        ])

    pub part_page : map (flags_of set_now) marks
        ≡ set (map (flags_of flags) marks) k (over from (replicate (to - from) true) (get_or (map (flags_of flags) marks) k []))
    part_page = ext_get_or [] (map (flags_of set_now) marks)
        (set (map (flags_of flags) marks) k (over from (replicate (to - from) true) (get_or (map (flags_of flags) marks) k [])))
        (length-map marks (flags_of set_now)
        ∙ sym (length-set (map (flags_of flags) marks) k (over from (replicate (to - from) true) (get_or (map (flags_of flags) marks) k [])) ∙ length-map marks (flags_of flags)))
        (λ j low. let inside_marks : j < length marks = omega (arith, low, length-map marks (flags_of set_now)) in
        page_at set_now marks j inside_marks
        ∙ elim (cases_eq j k) [
          | inl same ↦
              ap (λ (p : ℕ). flags_of set_now (get_or marks p Clean)) same
              ∙ ap (flags_of set_now) is
              ∙ here_set
              ∙ sym (
              ap (λ (p : ℕ). get_or (set (map (flags_of flags) marks) k (over from (replicate (to - from) true) (get_or (map (flags_of flags) marks) k []))) p []) same
              ∙ get_or-set_same (map (flags_of flags) marks) k (over from (replicate (to - from) true) (get_or (map (flags_of flags) marks) k [])) [] (omega (arith, lt, length-map marks (flags_of flags)))
              ∙ ap (λ (page : List Bool). over from (replicate (to - from) true) page) (page_at flags marks k lt ∙ ap (flags_of flags) is)
              )
          | inr other ↦
              elsewhere j (get_or marks j Clean) refl other
              ∙ sym (
              get_or-set_other (map (flags_of flags) marks) k j (over from (replicate (to - from) true) (get_or (map (flags_of flags) marks) k [])) [] other
              ∙ page_at flags marks j inside_marks
              )
        ])

  -- a page without flags gets some, all of them clear
  module _ (k : ℕ) (lt : k < length marks) (is : get_or marks k Clean ≡ Clean) where
    -- the flags of the pool now
    abbrev more : List Bool
    more = filled (length flags + 4096) false flags

    size_now : length more ≡ length flags + 4096
    size_now = omega (arith, length-filled false (length flags + 4096) flags)

    -- which pages have flags now
    given : (j s : ℕ) → get_or (set marks k (Part (length flags))) j Clean ≡ Part s → ((j ≡ k) × (s ≡ length flags)) ⊎ ((j ≡ k → ⊥) × (get_or marks j Clean ≡ Part s))
    given j s js = elim (cases_eq j k) [
      | inl same ↦
          let z : Part (length flags) ≡ Part s = sym (get_or-set_same marks k (Part (length flags)) Clean lt) ∙ ap (λ (p : ℕ). get_or (set marks k (Part (length flags))) p Clean) (sym same) ∙ js in
          inl (same, sym (ap start_of z))
      | inr other ↦ inr (other, sym (get_or-set_other marks k j (Part (length flags)) Clean other) ∙ js)
    ]
      where
        start_of : PageMark → ℕ
        start_of Clean = 0
        start_of Whole = 0
        start_of (Part s) = s

    pub started_room : length flags + 4096 ≤ flags_room
    started_room = omega (arith, w.few, w.fits, w.flags_enough, clean_set marks k 0 lt is)

    pub started_mark : get_or (set marks k (Part (length flags))) k Clean ≡ Part (length flags)
    started_mark = get_or-set_same marks k (Part (length flags)) Clean lt

    pub started_writing : IsWriting most marks_room flags_room (set marks k (Part (length flags))) more
    started_writing = record {
      inside = λ j s js. elim (given j s js) [
        | inl own ↦ omega (arith, own.1, size_now)
        | inr was ↦ omega (arith, w.inside j s was.1, size_now)
      ];
      apart = λ i j s t js jt ne. elim (given i s js) [
        | inl own ↦ elim (given j t jt) [
          | inl too ↦ absurd (ne (own.0 ∙ sym too.0))
          | inr was ↦ inr (omega (arith, w.inside j t was.1, own.1))
        ]
        | inr was ↦ elim (given j t jt) [
          | inl own ↦ inl (omega (arith, w.inside i s was.1, own.1))
          | inr too ↦ w.apart i j s t was.1 too.1 ne
        ]
      ];
      few = omega (arith, w.few, size_now, length-set marks k (Part (length flags)), clean_set marks k (length flags) lt is);
      fits = omega (arith, w.fits, length-set marks k (Part (length flags)));
      small = w.small;
      marks_enough = w.marks_enough;
      flags_enough = w.flags_enough;
    }

    -- a page that had flags shows the same
    kept_flags : (m : PageMark) → ((s : ℕ) → m ≡ Part s → s + 4096 ≤ length flags) → flags_of more m ≡ flags_of flags m
    kept_flags Clean in_pool = refl
    kept_flags Whole in_pool = refl
    kept_flags (Part s) in_pool = ext_get_or false (take 4096 (drop s more)) (take 4096 (drop s flags))
        (omega (
          arith,
          in_pool s refl,
          length-take 4096 (drop s more),
          length-drop s more,
          length-take 4096 (drop s flags),
          length-drop s flags,
          size_now,
        ))
        (λ i low. let lt : i < 4096 = omega (arith, low, length-take 4096 (drop s more)) in
        pool_at more s i lt ∙ filled_any false (length flags + 4096) (s + i) flags ∙ sym (pool_at flags s i lt))

    new_flags : take 4096 (drop (length flags) more) ≡ replicate 4096 false
    new_flags = ext_get_or false (take 4096 (drop (length flags) more)) (replicate 4096 false)
        (omega (
          arith,
          length-take 4096 (drop (length flags) more),
          length-drop (length flags) more,
          size_now,
          length-replicate 4096 false,
        ))
        (λ i low. let lt : i < 4096 = omega (arith, low, length-take 4096 (drop (length flags) more)) in
        pool_at more (length flags) i lt
        ∙ filled_any false (length flags + 4096) (length flags + i) flags
        ∙ get_or_past flags (length flags + i) false (omega arith)
        ∙ sym (get_or-replicate 4096 i false false lt))

    pub started_pages : map (flags_of more) (set marks k (Part (length flags))) ≡ map (flags_of flags) marks
    started_pages = ext_get_or [] (map (flags_of more) (set marks k (Part (length flags)))) (map (flags_of flags) marks)
        (length-map (set marks k (Part (length flags))) (flags_of more) ∙ length-set marks k (Part (length flags)) ∙ sym (length-map marks (flags_of flags)))
        (λ j low. let inside_now : j < length (set marks k (Part (length flags))) = omega (arith, low, length-map (set marks k (Part (length flags))) (flags_of more)) in
        let inside_was : j < length marks = omega (arith, inside_now, length-set marks k (Part (length flags))) in
        page_at more (set marks k (Part (length flags))) j inside_now
        ∙ elim (cases_eq j k) [
          | inl same ↦
              ap (λ (p : ℕ). flags_of more (get_or (set marks k (Part (length flags))) p Clean)) same
              ∙ ap (flags_of more) started_mark
              ∙ new_flags
              ∙ sym (ap (λ (p : ℕ). get_or (map (flags_of flags) marks) p []) same ∙ page_at flags marks k lt ∙ ap (flags_of flags) is)
          | inr other ↦
              ap (flags_of more) (get_or-set_other marks k j (Part (length flags)) Clean other)
              ∙ kept_flags (get_or marks j Clean) (w.inside j)
              ∙ sym (page_at flags marks j inside_was)
        ])

-- the mark of a page, as it was read
pub mark_at : (marks : List PageMark) (k : ℕ) (m n : PageMark) → k < length marks → m ≡ get_or marks k m → m ≡ n → get_or marks k Clean ≡ n
mark_at marks k m n lt there is = get_or_default marks k Clean m lt ∙ sym there ∙ is

-- a page without flags gets some, and some are set
module _ (most marks_room flags_room : ℕ) (marks marks2 : List PageMark) (flags flags2 flags3 : List Bool) (w : IsWriting most marks_room flags_room marks flags) (k s from to : ℕ)
    (lt : k < length marks) (is : get_or marks k Clean ≡ Clean) (le : from ≤ to) (inside : to ≤ 4096) (s_is : s ≡ length flags) (marks_are : marks2 ≡ set marks k (Part s))
    (flags_are : flags2 ≡ filled (s + 4096) false flags) (set_are : flags3 ≡ over (s + from) (replicate (to - from) true) flags2) where
  marks_now : marks2 ≡ set marks k (Part (length flags))
  marks_now = marks_are ∙ ap (λ (n : ℕ). set marks k (Part n)) s_is

  flags_now : flags2 ≡ filled (length flags + 4096) false flags
  flags_now = flags_are ∙ ap (λ (n : ℕ). filled (n + 4096) false flags) s_is

  own : get_or marks2 k Clean ≡ Part s
  own = ap (λ (l : List PageMark). get_or l k Clean) marks_are ∙ get_or-set_same marks k (Part s) Clean lt

  size : k < length marks2
  size = omega (arith, lt, ap length marks_are, length-set marks k (Part s))

  writing : IsWriting most marks_room flags_room marks2 flags2
  writing = written_same most marks_room flags_room marks_room flags_room (set marks k (Part (length flags))) marks2 (filled (length flags + 4096) false flags) flags2
      (started_writing most marks_room flags_room marks flags w k lt is) marks_now flags_now (omega arith) (omega arith)

  pub clean_writing : IsWriting most marks_room flags_room marks2 flags3
  clean_writing = written_same most marks_room flags_room marks_room flags_room marks2 marks2 (over (s + from) (replicate (to - from) true) flags2) flags3
      (part_writing most marks_room flags_room marks2 flags2 writing k s from to size own le inside) refl set_are (omega arith) (omega arith)

  pub clean_page : map (flags_of flags3) marks2 ≡ set (map (flags_of flags) marks) k (over from (replicate (to - from) true) (get_or (map (flags_of flags) marks) k []))
  clean_page =
      ap (λ (l : List Bool). map (flags_of l) marks2) set_are
      ∙ part_page most marks_room flags_room marks2 flags2 writing k s from to size own le inside
      ∙ ap (λ (pages : List (List Bool)). set pages k (over from (replicate (to - from) true) (get_or pages k [])))
      ((λ j. map (flags_of (flags_now j)) (marks_now j)) ∙ started_pages most marks_room flags_room marks flags w k lt is)

-- what is read of a page
module _ (most marks_room flags_room : ℕ) (marks : List PageMark) (flags : List Bool) (w : IsWriting most marks_room flags_room marks flags) (k : ℕ) (m n : PageMark)
    (lt : k < length marks) (there : m ≡ get_or marks k m) (is : m ≡ n) where
  pub read_page : get_or (map (flags_of flags) marks) k [] ≡ flags_of flags n
  read_page = page_at flags marks k lt ∙ ap (flags_of flags) (mark_at marks k m n lt there is)

  pub read_room : (s : ℕ) → n ≡ Part s → (s + 4096 ≤ length flags) × (length flags < 2 ^ 64)
  read_room s part = (w.inside k s (mark_at marks k m n lt there is ∙ part), omega (arith, w.few, w.fits, w.small))
