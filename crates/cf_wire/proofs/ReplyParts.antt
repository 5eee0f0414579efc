-- What follows the kind of a reply is read exactly.
use Rattle.std.proofs.Common.{ℕ, ◌+◌, ◌<◌, ◌^◌, List, [], ◌∷◌, ◌++◌, Ok}
use Rattle.cf_base.specs.declared.ids.Key.{Key}
use Rattle.cf_base.specs.declared.messages.Entry.{Entry}
use Rattle.cf_base.specs.declared.messages.Reply.{Reply}
use Rattle.cf_base.specs.declared.messages.Reply.TheVariants as reply
use Rattle.cf_base.specs.declared.messages.Why.{Why}
use Rattle.cf_model.specs.Books.{key_bytes}
use Rattle.cf_model.specs.Frames.{blob_bytes, spell_entries, why_number}
use Rattle.cf_model.specs.Words.{in_bytes}
use Rattle.cf_wire.specs.Reading.{◌>>=◌, bytes_reply_at, done_reply_at, entries_at, feed_reply_at, gone_reply_at, listing_reply_at, marked_at, missing_reply_at, refused_reply_at, void_reply_at, why_of}
use Rattle.cf_wire.specs.Spelled.{FitsBlob, FitsEntries, FitsKey}
use Rattle.cf_wire.proofs.EntryParts.{entries_exact, wide_entries, why_exact}
use Rattle.cf_wire.proofs.Exact.{IsExact, both_exact}
use Rattle.cf_wire.proofs.Parts.{last_blob, last_eight, last_key, made_exact, then_eight, then_four, then_key, wide_4, wide_8, wide_blob, wide_key}

last_entries : {Z : Type 0} (make : List Entry → Z) → IsExact spell_entries wide_entries FitsEntries make (λ l. entries_at l >>= λ r. Ok (make r.0, r.1))
last_entries make = made_exact spell_entries wide_entries FitsEntries entries_at make entries_exact

abbrev pub fed_parts : Type 0
fed_parts = Key × (ℕ × List Entry)

abbrev pub fed_text : fed_parts → List ℕ
fed_text p = key_bytes p.0 ++ (in_bytes 8 p.1.0 ++ spell_entries p.1.1)

abbrev pub fed_wide : fed_parts → List ℕ
fed_wide p = wide_key p.0 ++ (wide_8 p.1.0 ++ wide_entries p.1.1)

abbrev pub fed_fits : fed_parts → Type 0
fed_fits p = FitsKey p.0 × ((p.1.0 < 2 ^ 64) × FitsEntries p.1.1)

abbrev pub fed_of : fed_parts → Reply
fed_of p = reply.Feed (record { 0 = p.0 }) p.1.0 p.1.1

pub fed_exact : IsExact fed_text fed_wide fed_fits fed_of feed_reply_at
unfolding feed_reply_at
fed_exact = then_key (λ round _. then_eight (λ clock _. last_entries (λ es. reply.Feed (record { 0 = round }) clock es)))

abbrev pub listing_parts : Type 0
listing_parts = Key × List Entry

abbrev pub listing_text : listing_parts → List ℕ
listing_text p = key_bytes p.0 ++ spell_entries p.1

abbrev pub listing_wide : listing_parts → List ℕ
listing_wide p = wide_key p.0 ++ wide_entries p.1

abbrev pub listing_fits : listing_parts → Type 0
listing_fits p = FitsKey p.0 × FitsEntries p.1

abbrev pub listing_of : listing_parts → Reply
listing_of p = reply.Listing p.0 p.1

pub listing_exact : IsExact listing_text listing_wide listing_fits listing_of listing_reply_at
unfolding listing_reply_at
listing_exact = then_key (λ key _. last_entries (λ es. reply.Listing key es))

abbrev pub bytes_parts : Type 0
bytes_parts = Key × (ℕ × List ℕ)

abbrev pub bytes_text : bytes_parts → List ℕ
bytes_text p = key_bytes p.0 ++ (in_bytes 4 p.1.0 ++ blob_bytes p.1.1)

abbrev pub bytes_wide : bytes_parts → List ℕ
bytes_wide p = wide_key p.0 ++ (wide_4 p.1.0 ++ wide_blob p.1.1)

abbrev pub bytes_fits : bytes_parts → Type 0
bytes_fits p = FitsKey p.0 × ((p.1.0 < 2 ^ 32) × FitsBlob p.1.1)

abbrev pub bytes_of : bytes_parts → Reply
bytes_of p = reply.Bytes p.0 p.1.0 p.1.1

pub bytes_exact : IsExact bytes_text bytes_wide bytes_fits bytes_of bytes_reply_at
unfolding bytes_reply_at
bytes_exact = then_key (λ key _. then_four (λ start _. last_blob (λ bytes. reply.Bytes key start bytes)))

abbrev pub missing_parts : Type 0
missing_parts = Key

abbrev pub missing_text : missing_parts → List ℕ
missing_text p = key_bytes p

abbrev pub missing_wide : missing_parts → List ℕ
missing_wide p = wide_key p

abbrev pub missing_fits : missing_parts → Type 0
missing_fits p = FitsKey p

abbrev pub missing_of : missing_parts → Reply
missing_of p = reply.Missing p

pub missing_exact : IsExact missing_text missing_wide missing_fits missing_of missing_reply_at
unfolding missing_reply_at
missing_exact = last_key (λ key. reply.Missing key)

abbrev pub done_parts : Type 0
done_parts = Key × (ℕ × ℕ)

abbrev pub done_text : done_parts → List ℕ
done_text p = key_bytes p.0 ++ (in_bytes 8 p.1.0 ++ in_bytes 8 p.1.1)

abbrev pub done_wide : done_parts → List ℕ
done_wide p = wide_key p.0 ++ (wide_8 p.1.0 ++ wide_8 p.1.1)

abbrev pub done_fits : done_parts → Type 0
done_fits p = FitsKey p.0 × ((p.1.0 < 2 ^ 64) × (p.1.1 < 2 ^ 64))

abbrev pub done_of : done_parts → Reply
done_of p = reply.Done (record { 0 = p.0 }) (record { 0 = p.1.0 }) (record { 0 = p.1.1 })

pub done_exact : IsExact done_text done_wide done_fits done_of done_reply_at
unfolding done_reply_at
done_exact = then_key (λ token _. then_eight (λ rid _. last_eight (λ version. reply.Done (record { 0 = token }) (record { 0 = rid }) (record { 0 = version }))))

abbrev pub void_parts : Type 0
void_parts = Key

abbrev pub void_text : void_parts → List ℕ
void_text p = key_bytes p

abbrev pub void_wide : void_parts → List ℕ
void_wide p = wide_key p

abbrev pub void_fits : void_parts → Type 0
void_fits p = FitsKey p

abbrev pub void_of : void_parts → Reply
void_of p = reply.Void (record { 0 = p })

pub void_exact : IsExact void_text void_wide void_fits void_of void_reply_at
unfolding void_reply_at
void_exact = last_key (λ token. reply.Void (record { 0 = token }))

abbrev pub refused_parts : Type 0
refused_parts = Key × (Why × ℕ)

abbrev pub refused_text : refused_parts → List ℕ
refused_text p = key_bytes p.0 ++ ((why_number p.1.0 ∷ []) ++ in_bytes 8 p.1.1)

abbrev pub refused_wide : refused_parts → List ℕ
refused_wide p = wide_key p.0 ++ ((1 ∷ []) ++ wide_8 p.1.1)

abbrev pub refused_fits : refused_parts → Type 0
refused_fits p = FitsKey p.0 × (Unit {0} × (p.1.1 < 2 ^ 64))

abbrev pub refused_of : refused_parts → Reply
refused_of p = reply.Refused (record { 0 = p.0 }) p.1.0 (record { 0 = p.1.1 })

pub refused_exact : IsExact refused_text refused_wide refused_fits refused_of refused_reply_at
unfolding refused_reply_at
refused_exact = then_key (λ token _. both_exact (λ (w : Why). why_number w ∷ []) (λ w. 1 ∷ []) (λ w. Unit {0}) (marked_at why_of) _ _ _ _ _ why_exact (λ w _. last_eight (λ version. reply.Refused (record { 0 = token }) w (record { 0 = version }))))

abbrev pub gone_parts : Type 0
gone_parts = Key

abbrev pub gone_text : gone_parts → List ℕ
gone_text p = key_bytes p

abbrev pub gone_wide : gone_parts → List ℕ
gone_wide p = wide_key p

abbrev pub gone_fits : gone_parts → Type 0
gone_fits p = FitsKey p

abbrev pub gone_of : gone_parts → Reply
gone_of p = reply.Gone p

pub gone_exact : IsExact gone_text gone_wide gone_fits gone_of gone_reply_at
unfolding gone_reply_at
gone_exact = last_key (λ key. reply.Gone key)
