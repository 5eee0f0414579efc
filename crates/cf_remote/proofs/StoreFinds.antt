-- What a remote in memory has under a name in a directory.
use Rattle.std.proofs.Common.{◌≡◌, ◌<◌, ◌≤◌, ◌^◌, inl, inr, ℕ, suc, Bool, true, false, cond, List, [], ◌∷◌, length, map, refl, ap, ◌∙◌, arith, ◌==◌, ◌&&◌}
use Rattle.std.specs.Prelude.{All, Option, Some, Ok, Err, filter}
use Rattle.std.proofs.lemmas.List.{length-map}
use Rattle.std.proofs.lemmas.List.Elements.{All-cons, All-nil}
use Rattle.std.proofs.lemmas.List.Sums.{count_by-le-length, length-filter}
use Rattle.cf_base.specs.declared.ids.Rid.{Rid}
use Rattle.cf_base.specs.declared.messages.Entry.{Entry}
use Rattle.cf_base.specs.declared.messages.Reply.{Reply}
use Rattle.cf_base.specs.declared.messages.Reply.TheVariants as reply
use Rattle.cf_model.specs.Numbers.{no_key}
use Rattle.cf_model.specs.Peers.{list_of, named}
use Rattle.cf_model.specs.Store.{Held, Stored, entry_told, is_live_dir, listing_of, remote_step}
use Rattle.cf_model.specs.Words.{comes_before, put_in, sorted}
use Rattle.cf_remote.specs.Entries.{FindsEntry}
use Rattle.cf_remote.specs.Listable.{AreApart, AreListable}
use Rattle.cf_remote.specs.Told.{Answers, Told, counted}
use Rattle.cf_remote.specs.declared.find_errors.FindError.TheVariants.{Stray}
use Rattle.cf_wire.specs.Spelled.{ReplyHasRoom}
use Rattle.cf_remote.proofs.FoundEntries.{found_fit}
use Rattle.cf_remote.proofs.ListableItems.{listed_names, listing_fits}
use Rattle.cf_remote.proofs.Listings.{In}
use Rattle.cf_remote.proofs.PeerWalks.{name_short}

put_more : (e : Entry) (es : List Entry) → length (put_in (λ x y. comes_before x.name y.name) e es) ≡ suc (length es)
put_more e [] = refl
put_more e (f ∷ fs) = by (comes_before f.name e.name) (put_more e fs) where
  by : (b : Bool) → length (put_in (λ x y. comes_before x.name y.name) e fs) ≡ suc (length fs) → length (cond b (f ∷ put_in (λ x y. comes_before x.name y.name) e fs) (e ∷ f ∷ fs)) ≡ suc (suc (length fs))
  by true h = ap suc h
  by false h = refl

sorted_len : (es : List Entry) → length (sorted (λ x y. comes_before x.name y.name) es) ≡ length es
sorted_len [] = refl
sorted_len (e ∷ es) = put_more e (sorted (λ x y. comes_before x.name y.name) es) ∙ ap suc (sorted_len es)

listing_len : (held : Held) (rid : Rid) → length (listing_of held rid) ≤ length held.items
listing_len held rid =
    let p : Stored → Bool = λ s. s.live && (s.parent.0 == rid.0) in
    omega (arith, sorted_len (map entry_told (filter p held.items)), length-map (filter p held.items) entry_told, length-filter p held.items, count_by-le-length p held.items)

all_entries : (P : Entry → Type 0) (es : List Entry) → ((e : Entry) → In es e → P e) → All P es
all_entries P [] h = All-nil P
all_entries P (e ∷ es) h = All-cons P e es (h e (inl refl)) (all_entries P es (λ f k. h f (inr k)))

-- what such a remote reports
abbrev told_by : Held → ℕ → Told
told_by held asks = record { held = Some held; asks = Some asks; fails = Some []; faults = 0 }

module _ (held : Held) (rid : Rid) (name : List ℕ) (asks after : ℕ) (counts : after ≡ counted asks) where
  -- an ask that is answered
  answers : (r : Reply) → r ≡ (remote_step held (list_of rid)).0 → ReplyHasRoom r → Answers (list_of rid) r (told_by held asks) (told_by held after)
  answers r is room = record {
    replies = (is, refl);
    room = room;
    counts = record { asks = ap Some counts; fails = refl; which = refl };
    never_falls = omega arith;
  }

  pub finds_stray : is_live_dir held rid ≡ false → FindsEntry rid name (told_by held asks) (Err (Stray (reply.Missing no_key))) (told_by held after)
  finds_stray e = (answers (reply.Missing no_key) (rw e refl) tt, refl)

  pub finds_entry : AreListable held → is_live_dir held rid ≡ true → AreApart (listing_of held rid) → length held.items < 2 ^ 32 → (o : Option Entry) → o ≡ named name (listing_of held rid)
      → FindsEntry rid name (told_by held asks) (Ok o) (told_by held after)
  finds_entry all dir apart small o e =
      let es : List Entry = listing_of held rid in
      let short : All (λ (x : Entry). length x.name ≤ 255) es = all_entries (λ x. length x.name ≤ 255) es (λ x k. name_short x.name (listed_names held all rid dir x k)) in (
        reply.Listing no_key es,
        answers (reply.Listing no_key es) (rw dir refl) (omega (arith, small, listing_len held rid), short),
        ap (λ (x : Option Entry). Ok x) e ∙ found_fit rid name no_key es (listing_fits held all rid dir apart),
      )
