-- Uploads of the bytes of files.
use Rattle.std.proofs.Common.{◌≡◌, ◌+◌, ◌-◌, ◌⊎◌, ℕ, Bool, true, false, List, [], length, refl, sym, ◌∙◌, ap, subst, arith, inl, inr, take_all}
use Rattle.std.specs.List.{list_all}
use Rattle.std.specs.Prelude.{Result, Ok, Err, Option, Some, None, is_some, slice_range}
use Rattle.cf_base.specs.declared.codes.CallError.{CallError}
use Rattle.cf_base.specs.declared.codes.CallError.TheVariants.{No, OutOfMemory}
use Rattle.cf_base.specs.declared.codes.Code.{Code}
use Rattle.cf_base.specs.declared.codes.Code.TheVariants as code
use Rattle.cf_base.specs.declared.ids.ItemId.{ItemId}
use Rattle.cf_base.specs.declared.ids.Token.{Token}
use Rattle.cf_base.specs.declared.ids.Version.{Version}
use Rattle.cf_base.specs.declared.spans.Span.{Span}
use Rattle.cf_engine_queue.specs.Books.{entry_value}
use Rattle.cf_engine_steps.specs.Answering.{Answers, Any, On, Reads}
use Rattle.cf_engine_steps.specs.Readings.{token_left}
use Rattle.cf_engine_steps.specs.States.{Means, Own, whole}
use Rattle.cf_engine_steps.proofs.Laws.{after_on, returned}
use Rattle.cf_engine_uploads.proofs.Pushed.{no_token, none_left, stops_at_token, token_is}
use Rattle.cf_engine_uploads.proofs.Trees.{Leads, on_tree, same_at, under}
use Rattle.cf_engine_uploads.specs.Entries.{Drafts}
use Rattle.cf_engine_uploads.specs.Reads.{is_whole_at}
use Rattle.cf_engine_uploads.specs.Uploads.{IsWholeItem, MayPut, is_of_place}
use Rattle.cf_engine_uploads.specs.declared.entries.Draft.{Draft}
use Rattle.cf_filter_calls.specs.Planned.{ReadsAt}
use Rattle.cf_filter_steps.specs.Answering as steps
use Rattle.cf_filter_steps.specs.Answering.{IsAt}
use Rattle.cf_filter_steps.specs.Putting.{IsHere, bytes_there}
use Rattle.cf_model.specs.Arrows.{Arrow, one, reading, ret, unit}
use Rattle.cf_model.specs.Books.{Action, MakeDir, MoveItem, PutFile, QueueEntry, RemoveItem}
use Rattle.cf_model.specs.Identities.{base_version}
use Rattle.cf_model.specs.Items.{Item, bytes_held, is_all_here, item_of, size_of}
use Rattle.cf_model.specs.Operations.{as_it_is}
use Rattle.cf_model.specs.Pushes.{entry_by, item_now, push, push_item, put_if, put_whole, request_of}
use Rattle.cf_model.specs.Skips.{skip}
use Rattle.cf_model.specs.State.{Filter, State, items_now, with_filter}
use Rattle.cf_model.specs.Words.{part, says}
use Rattle.cf_remote.specs.Told.{Told}

-- The bytes of the whole file.

all_of : (held : List (Option ℕ)) → slice_range held 0 (0 + length held) ≡ held
all_of held = take_all (0 + length held - 0) held (omega arith)

module _ (id : ItemId) (i : Item) (n : ℕ) (s : Filter) (size : n ≡ size_of i) (item : IsWholeItem id i s) where
  held_is : slice_range (part (λ (j : Item). j.held) [] (item_of s.volume.items id)) 0 (0 + n) ≡ i.held
  held_is = ap (λ (o : Option Item). slice_range (part (λ (j : Item). j.held) [] o) 0 (0 + n)) item.there ∙ ap (λ (m : ℕ). slice_range i.held 0 (0 + m)) size ∙ all_of i.held

  pub is_here : IsHere id (record { start = 0; len = n }) s
  is_here = record { inside = ap length held_is ∙ sym size; here = ap (list_all is_some) held_is ∙ item.whole }

  pub bytes_are : bytes_there id (record { start = 0; len = n }) s ≡ bytes_held i.held
  bytes_are = ap bytes_held held_is

-- An upload of a place has no bytes.
of_place : (a : Action) (i : Item) (s : State) (e : QueueEntry) (expect : Version) (bytes : List ℕ) → is_of_place a ≡ true → e ≡ entry_by a i s → push e (request_of e expect bytes) s ≡ push_item a i s
of_place MakeDir i s e expect bytes place is = ap (λ (k : QueueEntry). push k (request_of k expect bytes) s) is
of_place MoveItem i s e expect bytes place is = ap (λ (k : QueueEntry). push k (request_of k expect bytes) s) is
of_place PutFile i s e expect bytes place is = let z : false ≡ true = place in absurd cc
of_place RemoveItem i s e expect bytes place is = let z : false ≡ true = place in absurd cc

-- They are read before the token is drawn.

module _ {X R : Type 0} (S : steps.Sense X) (told : R → Told) (id : ItemId) (i : Item) (d : Draft) (x y : X) (e : Own R) (n : ℕ) (size : ReadsAt S id size_of x n) where
  abbrev entry : QueueEntry
  entry = entry_value d.entry

  here_now : (s : State) → Means S told x e s → MayPut id i d s → IsHere id (record { start = 0; len = n }) s.filter
  here_now s m p = is_here id i n s.filter (size.is s.filter i m.filter p.item.there) p.item

  same_push : (bytes : List ℕ) (s : State) → MayPut id i d s → bytes ≡ bytes_held i.held → push entry (request_of entry d.expect bytes) s ≡ push_item PutFile i s
  same_push bytes s p is = λ j. push (p.entry j) (request_of (p.entry j) (p.expect j) (is j)) s

  means_still : (s : State) → Means S told x e s → S.means y s.filter → Means S told y e s
  means_still s m h = record { filter = h; on = m.on; sees = m.sees; took_done = m.took_done; first_clock = m.first_clock; volatile = m.volatile }

  pub read_then : (asked : Span) (z : X) (f : Own R) (bytes : List ℕ) (u : Unit {0}) (r : Result (Unit {0}) CallError) → asked ≡ record { start = 0; len = n } → steps.Answers S (IsHere id asked) (one as_it_is) x (Ok u) y → steps.Reads S (IsHere id asked) (bytes_there id asked) x bytes
      → Answers (whole S told) Any (push entry (request_of entry d.expect bytes)) (y, e) r (z, f) → Answers (whole S told) (MayPut id i d) (push_item PutFile i) (x, e) r (z, f)
  read_then asked z f bytes u r is h tells k = record {
    leads = λ s m p.
        let here : IsHere id asked s.filter = subst (λ (a : Span). IsHere id a s.filter) (sym is) (here_now s m p) in
        let l = h.leads s.filter m.filter here in
        let stays : S.moved x y s.filter s.filter = subst (S.moved x y s.filter) l.1.1 l.2 in
        let q = k.leads s (means_still s m (subst (S.means y) l.1.1 l.3)) (record {}) in
        let read : bytes ≡ bytes_held i.held = tells.is s.filter m.filter here ∙ ap (λ (a : Span). bytes_there id a s.filter) is ∙ bytes_are id i n s.filter (size.is s.filter i m.filter p.item.there) p.item in
        on_tree (whole S told) (x, e) r (z, f) s (push entry (request_of entry d.expect bytes) s) (push_item PutFile i s) (same_push bytes s p read)
        (q.0, q.1, (whole S told).goes_on (x, e) (y, e) (z, f) s s q.0 stays q.2, after_on (whole S told) (x, e) (y, e) (z, f) s s q.0 r stays ((whole S told).counts_none (x, e) s) q.3);
  }

  stopped_by : (c : Code) (s : State) (t : Filter) → Means S told x e s → MayPut id i d s → c ≡ code.Device → (t ≡ s.filter) ⊎ ⊥ → S.moved x y s.filter t → S.stopped x y t → Leads (whole S told) (x, e) (Err (No c)) (y, e) s (push_item PutFile i s)
  stopped_by c s t m p device (inl same) moved stopped = (
    s,
    (device, stops_at_token (entry_by PutFile i s) (request_of (entry_by PutFile i s) (base_version i) (bytes_held i.held)) s p.left),
    subst (S.moved x y s.filter) same moved,
    (record { filter = subst (S.stopped x y) same stopped; on = m.on; replays = m.sees.replays; link = m.sees.link }, (whole S told).counts_none (x, e) s),
  )
  stopped_by c s t m p device (inr none) moved stopped = absurd none

  pub read_stops : (asked : Span) (c : CallError) → asked ≡ record { start = 0; len = n } → steps.Answers S (IsHere id asked) (one as_it_is) x (Err c) y → Answers (whole S told) (MayPut id i d) (push_item PutFile i) (x, e) (Err c) (y, e)
  read_stops asked (No c) is h = record {
    leads = λ s m p. let l = h.leads s.filter m.filter (subst (λ (a : Span). IsHere id a s.filter) (sym is) (here_now s m p)) in stopped_by c s l.0 m p l.1.0 l.1.1 l.2 l.3;
  }
  read_stops asked OutOfMemory is h = record {
    leads = λ s m p. let l = h.leads s.filter m.filter (subst (λ (a : Span). IsHere id a s.filter) (sym is) (here_now s m p)) in (with_filter l.0 s, record {}, l.2, l.3);
  }

-- by the token that is left

module _ {X R : Type 0} (S : steps.Sense X) (told : R → Told) (x y : X) (e f : Own R) (o : Option Token) (r : Result (Unit {0}) CallError) (reads : Reads (whole S told) Any token_left (x, e) o) where
  pub item_none : (P : State → Type 0) (a : Action) (i : Item) → o ≡ None → Answers (whole S told) Any (skip code.Exhausted) (x, e) r (y, f) → Answers (whole S told) P (push_item a i) (x, e) r (y, f)
  item_none P a i is h = record {
    leads = λ s m p. (none_left (whole S told) (entry_by a i s) (request_of (entry_by a i s) (base_version i) (bytes_held i.held)) (x, e) (y, f) r h).leads s m (no_token (whole S told) (x, e) o reads s m is);
  }

  module _ (token : Token) (is : o ≡ Some token) (id : ItemId) (i : Item) (d : Draft) where
    pub put_by : Drafts S token PutFile id x d → Answers (whole S told) (MayPut id i d) (push_item PutFile i) (x, e) r (y, f) → Answers (whole S told) (On (IsWholeItem id i)) (push_item PutFile i) (x, e) r (y, f)
    put_by drafts h = under (whole S told) (x, e) r (y, f) (MayPut id i d) (On (IsWholeItem id i)) (push_item PutFile i)
        (λ s m p. let t = token_is (whole S told) (x, e) o reads s m token is in record { item = p; left = t.0; entry = drafts.entry s i m.filter p.there t.1; expect = drafts.expect s i m.filter p.there }) h

    pub place_by : (a : Action) (bytes : List ℕ) → is_of_place a ≡ true → Drafts S token a id x d → Answers (whole S told) Any (push (entry_value d.entry) (request_of (entry_value d.entry) d.expect bytes)) (x, e) r (y, f) → Answers (whole S told) (On (IsAt id i)) (push_item a i) (x, e) r (y, f)
    place_by a bytes place drafts h = same_at (whole S told) (x, e) r (y, f) (On (IsAt id i)) (push (entry_value d.entry) (request_of (entry_value d.entry) d.expect bytes)) (push_item a i)
        (λ s m at. let t = token_is (whole S told) (x, e) o reads s m token is in of_place a i s (entry_value d.entry) d.expect bytes place (drafts.entry s i m.filter at t.1)) (under (whole S told) (x, e) r (y, f) Any (On (IsAt id i)) (push (entry_value d.entry) (request_of (entry_value d.entry) d.expect bytes)) (λ s m p. record {}) h)

-- a file that is whole now

whole_item : (o : Option Item) → says is_all_here o ≡ true → (i : Item) × (o ≡ Some i) × (is_all_here i ≡ true)
whole_item None e = let z : false ≡ true = e in absurd cc
whole_item (Some i) e = (i, refl, e)

not_whole : (o : Option Item) → says is_all_here o ≡ false → ret unit ≡ put_whole o
not_whole None e = refl
not_whole (Some i) e = ap (put_if i) (sym e)

module _ {X R : Type 0} (S : steps.Sense X) (told : R → Told) (id : ItemId) (x : X) (e : Own R) (b : Bool) (reads : steps.Reads S steps.Any (is_whole_at id) x b) where
  pub puts : (y : X) (f : Own R) (r : Result (Unit {0}) CallError) → b ≡ true → ((i : Item) → Answers (whole S told) (On (IsWholeItem id i)) (push_item PutFile i) (x, e) r (y, f)) → Answers (whole S told) Any (reading (item_now id) put_whole) (x, e) r (y, f)
  puts y f r is h = record {
    leads = λ s m p.
        let w = whole_item (item_of (items_now s) id) (sym (reads.is s.filter m.filter (record {})) ∙ is) in
        on_tree (whole S told) (x, e) r (y, f) s (push_item PutFile w.0 s) (reading (item_now id) put_whole s) (ap (λ (a : Bool). put_if w.0 a s) (sym w.2) ∙ ap (λ (o : Option Item). put_whole o s) (sym w.1)) ((h w.0).leads s m (record { there = w.1; whole = w.2 }));
  }

  pub puts_none : b ≡ false → Answers (whole S told) Any (reading (item_now id) put_whole) (x, e) (Ok unit) (x, e)
  puts_none is = same_at (whole S told) (x, e) (Ok unit) (x, e) Any (ret unit) (reading (item_now id) put_whole)
      (λ s m p. ap (λ (g : Arrow State (Unit {0})). g s) (not_whole (item_of (items_now s) id) (sym (reads.is s.filter m.filter (record {})) ∙ is))) (returned (whole S told) Any unit (x, e))
