-- What follows the kind of a request is read exactly.
use Rattle.std.proofs.Common.{ℕ, ◌+◌, ◌<◌, ◌^◌, List, ◌++◌}
use Rattle.cf_base.specs.declared.ids.Key.{Key}
use Rattle.cf_base.specs.declared.messages.Request.{Request}
use Rattle.cf_base.specs.declared.messages.Request.TheVariants as request
use Rattle.cf_model.specs.Books.{key_bytes}
use Rattle.cf_model.specs.Frames.{blob_bytes, name_bytes}
use Rattle.cf_model.specs.Words.{in_bytes}
use Rattle.cf_wire.specs.Reading.{feed_request_at, fetch_request_at, keep_request_at, list_request_at, make_request_at, move_request_at, put_request_at, remove_request_at, settle_request_at}
use Rattle.cf_wire.specs.Spelled.{FitsBlob, FitsKey, FitsName}
use Rattle.cf_wire.proofs.Exact.{IsExact}
use Rattle.cf_wire.proofs.Parts.{last_blob, last_eight, last_four, last_key, last_name, then_eight, then_four, then_key, then_name, wide_4, wide_8, wide_blob, wide_key, wide_name}

abbrev pub feed_parts : Type 0
feed_parts = Key × ℕ

abbrev pub feed_text : feed_parts → List ℕ
feed_text p = key_bytes p.0 ++ in_bytes 8 p.1

abbrev pub feed_wide : feed_parts → List ℕ
feed_wide p = wide_key p.0 ++ wide_8 p.1

abbrev pub feed_fits : feed_parts → Type 0
feed_fits p = FitsKey p.0 × (p.1 < 2 ^ 64)

abbrev pub feed_of : feed_parts → Request
feed_of p = request.Feed (record { 0 = p.0 }) p.1

pub feed_exact : IsExact feed_text feed_wide feed_fits feed_of feed_request_at
unfolding feed_request_at
feed_exact = then_key (λ round _. last_eight (λ after. request.Feed (record { 0 = round }) after))

abbrev pub list_parts : Type 0
list_parts = Key × ℕ

abbrev pub list_text : list_parts → List ℕ
list_text p = key_bytes p.0 ++ in_bytes 8 p.1

abbrev pub list_wide : list_parts → List ℕ
list_wide p = wide_key p.0 ++ wide_8 p.1

abbrev pub list_fits : list_parts → Type 0
list_fits p = FitsKey p.0 × (p.1 < 2 ^ 64)

abbrev pub list_of : list_parts → Request
list_of p = request.List p.0 (record { 0 = p.1 })

pub list_exact : IsExact list_text list_wide list_fits list_of list_request_at
unfolding list_request_at
list_exact = then_key (λ key _. last_eight (λ rid. request.List key (record { 0 = rid })))

abbrev pub fetch_parts : Type 0
fetch_parts = Key × (ℕ × (ℕ × (ℕ × ℕ)))

abbrev pub fetch_text : fetch_parts → List ℕ
fetch_text p = key_bytes p.0 ++ (in_bytes 8 p.1.0 ++ (in_bytes 8 p.1.1.0 ++ (in_bytes 4 p.1.1.1.0 ++ in_bytes 4 p.1.1.1.1)))

abbrev pub fetch_wide : fetch_parts → List ℕ
fetch_wide p = wide_key p.0 ++ (wide_8 p.1.0 ++ (wide_8 p.1.1.0 ++ (wide_4 p.1.1.1.0 ++ wide_4 p.1.1.1.1)))

abbrev pub fetch_fits : fetch_parts → Type 0
fetch_fits p = FitsKey p.0 × ((p.1.0 < 2 ^ 64) × ((p.1.1.0 < 2 ^ 64) × ((p.1.1.1.0 < 2 ^ 32) × (p.1.1.1.1 < 2 ^ 32))))

abbrev pub fetch_of : fetch_parts → Request
fetch_of p = request.Fetch p.0 (record { 0 = p.1.0 }) (record { 0 = p.1.1.0 }) p.1.1.1.0 p.1.1.1.1

pub fetch_exact : IsExact fetch_text fetch_wide fetch_fits fetch_of fetch_request_at
unfolding fetch_request_at
fetch_exact = then_key (λ key _. then_eight (λ rid _. then_eight (λ version _. then_four (λ start _. last_four (λ len. request.Fetch key (record { 0 = rid }) (record { 0 = version }) start len)))))

abbrev pub put_parts : Type 0
put_parts = Key × (ℕ × (ℕ × (ℕ × (List ℕ × List ℕ))))

abbrev pub put_text : put_parts → List ℕ
put_text p = key_bytes p.0 ++ (in_bytes 8 p.1.0 ++ (in_bytes 8 p.1.1.0 ++ (in_bytes 8 p.1.1.1.0 ++ (name_bytes p.1.1.1.1.0 ++ blob_bytes p.1.1.1.1.1))))

abbrev pub put_wide : put_parts → List ℕ
put_wide p = wide_key p.0 ++ (wide_8 p.1.0 ++ (wide_8 p.1.1.0 ++ (wide_8 p.1.1.1.0 ++ (wide_name p.1.1.1.1.0 ++ wide_blob p.1.1.1.1.1))))

abbrev pub put_fits : put_parts → Type 0
put_fits p = FitsKey p.0 × ((p.1.0 < 2 ^ 64) × ((p.1.1.0 < 2 ^ 64) × ((p.1.1.1.0 < 2 ^ 64) × (FitsName p.1.1.1.1.0 × FitsBlob p.1.1.1.1.1))))

abbrev pub put_of : put_parts → Request
put_of p = request.Put (record { 0 = p.0 }) (record { 0 = p.1.0 }) (record { 0 = p.1.1.0 }) (record { 0 = p.1.1.1.0 }) p.1.1.1.1.0 p.1.1.1.1.1

pub put_exact : IsExact put_text put_wide put_fits put_of put_request_at
unfolding put_request_at
put_exact = then_key (λ token _. then_eight (λ rid _. then_eight (λ expect _. then_eight (λ parent _. then_name (λ name _. last_blob (λ bytes. request.Put (record { 0 = token }) (record { 0 = rid }) (record { 0 = expect }) (record { 0 = parent }) name bytes))))))

abbrev pub make_parts : Type 0
make_parts = Key × (ℕ × List ℕ)

abbrev pub make_text : make_parts → List ℕ
make_text p = key_bytes p.0 ++ (in_bytes 8 p.1.0 ++ name_bytes p.1.1)

abbrev pub make_wide : make_parts → List ℕ
make_wide p = wide_key p.0 ++ (wide_8 p.1.0 ++ wide_name p.1.1)

abbrev pub make_fits : make_parts → Type 0
make_fits p = FitsKey p.0 × ((p.1.0 < 2 ^ 64) × FitsName p.1.1)

abbrev pub make_of : make_parts → Request
make_of p = request.MakeDir (record { 0 = p.0 }) (record { 0 = p.1.0 }) p.1.1

pub make_exact : IsExact make_text make_wide make_fits make_of make_request_at
unfolding make_request_at
make_exact = then_key (λ token _. then_eight (λ parent _. last_name (λ name. request.MakeDir (record { 0 = token }) (record { 0 = parent }) name)))

abbrev pub move_parts : Type 0
move_parts = Key × (ℕ × (ℕ × List ℕ))

abbrev pub move_text : move_parts → List ℕ
move_text p = key_bytes p.0 ++ (in_bytes 8 p.1.0 ++ (in_bytes 8 p.1.1.0 ++ name_bytes p.1.1.1))

abbrev pub move_wide : move_parts → List ℕ
move_wide p = wide_key p.0 ++ (wide_8 p.1.0 ++ (wide_8 p.1.1.0 ++ wide_name p.1.1.1))

abbrev pub move_fits : move_parts → Type 0
move_fits p = FitsKey p.0 × ((p.1.0 < 2 ^ 64) × ((p.1.1.0 < 2 ^ 64) × FitsName p.1.1.1))

abbrev pub move_of : move_parts → Request
move_of p = request.Move (record { 0 = p.0 }) (record { 0 = p.1.0 }) (record { 0 = p.1.1.0 }) p.1.1.1

pub move_exact : IsExact move_text move_wide move_fits move_of move_request_at
unfolding move_request_at
move_exact = then_key (λ token _. then_eight (λ rid _. then_eight (λ parent _. last_name (λ name. request.Move (record { 0 = token }) (record { 0 = rid }) (record { 0 = parent }) name))))

abbrev pub remove_parts : Type 0
remove_parts = Key × (ℕ × ℕ)

abbrev pub remove_text : remove_parts → List ℕ
remove_text p = key_bytes p.0 ++ (in_bytes 8 p.1.0 ++ in_bytes 8 p.1.1)

abbrev pub remove_wide : remove_parts → List ℕ
remove_wide p = wide_key p.0 ++ (wide_8 p.1.0 ++ wide_8 p.1.1)

abbrev pub remove_fits : remove_parts → Type 0
remove_fits p = FitsKey p.0 × ((p.1.0 < 2 ^ 64) × (p.1.1 < 2 ^ 64))

abbrev pub remove_of : remove_parts → Request
remove_of p = request.Remove (record { 0 = p.0 }) (record { 0 = p.1.0 }) (record { 0 = p.1.1 })

pub remove_exact : IsExact remove_text remove_wide remove_fits remove_of remove_request_at
unfolding remove_request_at
remove_exact = then_key (λ token _. then_eight (λ rid _. last_eight (λ expect. request.Remove (record { 0 = token }) (record { 0 = rid }) (record { 0 = expect }))))

abbrev pub settle_parts : Type 0
settle_parts = Key

abbrev pub settle_text : settle_parts → List ℕ
settle_text p = key_bytes p

abbrev pub settle_wide : settle_parts → List ℕ
settle_wide p = wide_key p

abbrev pub settle_fits : settle_parts → Type 0
settle_fits p = FitsKey p

abbrev pub settle_of : settle_parts → Request
settle_of p = request.Settle (record { 0 = p })

pub settle_exact : IsExact settle_text settle_wide settle_fits settle_of settle_request_at
unfolding settle_request_at
settle_exact = last_key (λ token. request.Settle (record { 0 = token }))

abbrev pub keep_parts : Type 0
keep_parts = Key × ℕ

abbrev pub keep_text : keep_parts → List ℕ
keep_text p = key_bytes p.0 ++ in_bytes 4 p.1

abbrev pub keep_wide : keep_parts → List ℕ
keep_wide p = wide_key p.0 ++ wide_4 p.1

abbrev pub keep_fits : keep_parts → Type 0
keep_fits p = FitsKey p.0 × (p.1 < 2 ^ 32)

abbrev pub keep_of : keep_parts → Request
keep_of p = request.Keep (record { 0 = p.0 }) p.1

pub keep_exact : IsExact keep_text keep_wide keep_fits keep_of keep_request_at
unfolding keep_request_at
keep_exact = then_key (λ token _. last_four (λ count. request.Keep (record { 0 = token }) count))
