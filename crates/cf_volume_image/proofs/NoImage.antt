-- Where a text is at fault, it spells no image and no payload.
use Rattle.std.proofs.Common.{◌≡◌, ℕ, zero, suc, ◌^◌, ◌<◌, List, [], ◌∷◌, ◌++◌, length, refl, sym, ap, subst, ◌∙◌, append_assoc, append-nil, arith, Option, Some, None, inl, inr}
use Rattle.std.specs.List.{flat_map}
use Rattle.std.specs.Prelude.{IfErr, Result, Ok, Err}
use Rattle.cf_base.specs.declared.answers.AuxRecord.{AuxRecord}
use Rattle.cf_base.specs.declared.ids.ItemId.{ItemId}
use Rattle.cf_codec.specs.Left.{Left}
use Rattle.cf_codec.specs.declared.formats.Format.{Format}
use Rattle.cf_codec.specs.declared.formats.Format.TheVariants.{First, Second}
use Rattle.cf_model.specs.Books.{usn_bytes}
use Rattle.cf_model.specs.Formats.{Image, Payload, spell_id, spell_key, spell_record, spell_records}
use Rattle.cf_model.specs.Words.{in_bytes}
use Rattle.cf_table.proofs.NoRow.{Refuses, identity_misses, name_misses, not_at_end, not_told, number_misses, once, one_1, table_misses, ticks_miss, two_parts, usn_misses}
use Rattle.cf_table.proofs.OneRow.{one_table}
use Rattle.cf_table.proofs.OneText.{OneOf, one_4, one_8, one_name, one_usn, parted}
use Rattle.cf_table.specs.Faults.{Any, AreTable, AtEnd, AtIdentity, AtNumber, AtTable, AtTicks, AtUsn, IsNumber, IsTold, Then, ThenOf}
use Rattle.cf_table.specs.Reading.{AreTicks, IsAbove, IsIdentity, IsUsn, identity_bytes, ticks_bytes}
use Rattle.cf_table.specs.Spelling.{spell_rows_in}
use Rattle.cf_table.specs.declared.failures.RowError.{RowError}
use Rattle.cf_table.specs.declared.failures.RowError.TheVariants.{OutOfMemory}
use Rattle.cf_volume_image.specs.Faults.{AtFormat, AtHeader, AtId, AtIds, AtIdsFrom, AtImage, AtKey, AtKeys, AtKeysFrom, AtPayload, AtRecord, AtRecords, AtRecordsFrom}
use Rattle.cf_volume_image.specs.Spelled.{AreIds, AreIdsFrom, AreKeys, AreKeysFrom, AreRecords, AreRecordsFrom, IsAfter, IsHeaderIn, IsId, IsImageIn, IsKey, IsPayloadIn, IsRecord, format_byte, ids_bytes, keys_bytes, spell_header_in, spell_image_in, spell_payload_in}
use Rattle.cf_volume_image.proofs.OneImage.{image_parts, one_header, one_id, one_ids, one_key, one_keys, one_record, one_records, payload_parts, record_parts}

-- parts

clocks_miss : (f : Format) → Refuses (ThenOf 8 Any (λ next. AtTicks f)) (λ (y : ℕ × ℕ). (y.0 < 2 ^ 64) × AreTicks f y.1) (λ y. in_bytes 8 y.0 ++ ticks_bytes f y.1)
clocks_miss f left e told h y more is text =
    two_parts (AtNumber 8 Any) (IsNumber 8 Any) (in_bytes 8) (λ next. AtTicks f) (λ next. AreTicks f) (ticks_bytes f)
    (number_misses 8 Any one_8) (once 8 Any one_8) (λ next. ticks_miss f) left e told h y.0 y.1 more (is.0, tt) is.1 text

counts_miss : (f : Format) → Refuses (ThenOf 8 Any (λ count. ThenOf 8 Any (λ next. AtTicks f))) (λ (y : ℕ × (ℕ × ℕ)). (y.0 < 2 ^ 64) × ((y.1.0 < 2 ^ 64) × AreTicks f y.1.1)) (λ y. in_bytes 8 y.0 ++ (in_bytes 8 y.1.0 ++ ticks_bytes f y.1.1))
counts_miss f left e told h y more is text =
    two_parts (AtNumber 8 Any) (IsNumber 8 Any) (in_bytes 8) (λ count. ThenOf 8 Any (λ next. AtTicks f)) (λ count (z : ℕ × ℕ). (z.0 < 2 ^ 64) × AreTicks f z.1) (λ z. in_bytes 8 z.0 ++ ticks_bytes f z.1)
    (number_misses 8 Any one_8) (once 8 Any one_8) (λ count. clocks_miss f) left e told h y.0 y.1 more (is.0, tt) is.1 text

header_misses : (f : Format) → Refuses (AtHeader f) (IsHeaderIn f) (spell_header_in f)
header_misses f left e told h x more is text =
    two_parts AtUsn IsUsn usn_bytes (λ last. ThenOf 8 Any (λ count. ThenOf 8 Any (λ next. AtTicks f))) (λ last (y : ℕ × (ℕ × ℕ)). (y.0 < 2 ^ 64) × ((y.1.0 < 2 ^ 64) × AreTicks f y.1.1))
    (λ y. in_bytes 8 y.0 ++ (in_bytes 8 y.1.0 ++ ticks_bytes f y.1.1)) usn_misses one_usn (λ last. counts_miss f) left e told h x.last (x.count, (x.next.0, x.clock)) more is.0 (is.1, (is.2, is.3)) text

key_misses : (before : Option (List ℕ)) → Refuses (AtKey before) (IsKey before) spell_key
key_misses before left e told (inl h) key more is text = name_misses left e told h key more is.0 text
key_misses before left e told (inr h) key more is text =
    let p = one_name h.key key h.mid.rest more h.has_room is.0 (sym h.takes.parts ∙ text) in
    h.late (subst (IsAfter before) (sym p.0) is.1)

record_misses : (before : Option (List ℕ)) → Refuses (AtRecord before) (IsRecord before) spell_record
record_misses before left e told h r more is text =
    two_parts (AtKey before) (IsKey before) spell_key (λ key. AtIdentity) (λ key. IsIdentity) identity_bytes (key_misses before) (one_key before) (λ key. identity_misses) left e told h r.key r.value more is.0 is.1 (text ∙ record_parts r more)

records_from_miss : (before : Option (List ℕ)) (n : ℕ) → Refuses (AtRecordsFrom before n) (λ (rs : List AuxRecord). (length rs ≡ n) × AreRecordsFrom before rs) (flat_map spell_record)
records_from_miss before zero left e told h rs more is text = not_told e told h
records_from_miss before (suc n) left e told h [] more is text = absurd (omega (arith, is.0))
records_from_miss before (suc n) left e told h (r ∷ rs) more is text =
    two_parts (AtRecord before) (IsRecord before) spell_record (λ (x : AuxRecord). AtRecordsFrom (Some x.key) n) (λ (x : AuxRecord) (xs : List AuxRecord). (length xs ≡ n) × AreRecordsFrom (Some x.key) xs) (flat_map spell_record)
    (record_misses before) (one_record before) (λ (x : AuxRecord). records_from_miss (Some x.key) n) left e told h r rs more is.1.0 (omega (arith, is.0), is.1.1)
    (text ∙ append_assoc (spell_record r) (flat_map spell_record rs) more)

records_miss : Refuses AtRecords AreRecords spell_records
records_miss left e told h rs more is text =
    two_parts (AtNumber 4 Any) (IsNumber 4 Any) (in_bytes 4) (λ n. AtRecordsFrom None n) (λ n (xs : List AuxRecord). (length xs ≡ n) × AreRecordsFrom None xs) (flat_map spell_record)
    (number_misses 4 Any one_4) (once 4 Any one_4) (records_from_miss None) left e told h (length rs) rs more (is.0, tt) (refl, is.1) text

keys_from_miss : (before : Option (List ℕ)) (n : ℕ) → Refuses (AtKeysFrom before n) (λ (ks : List (List ℕ)). (length ks ≡ n) × AreKeysFrom before ks) (flat_map spell_key)
keys_from_miss before zero left e told h ks more is text = not_told e told h
keys_from_miss before (suc n) left e told h [] more is text = absurd (omega (arith, is.0))
keys_from_miss before (suc n) left e told h (k ∷ ks) more is text =
    two_parts (AtKey before) (IsKey before) spell_key (λ (x : List ℕ). AtKeysFrom (Some x) n) (λ (x : List ℕ) (xs : List (List ℕ)). (length xs ≡ n) × AreKeysFrom (Some x) xs) (flat_map spell_key)
    (key_misses before) (one_key before) (λ (x : List ℕ). keys_from_miss (Some x) n) left e told h k ks more is.1.0 (omega (arith, is.0), is.1.1)
    (text ∙ append_assoc (spell_key k) (flat_map spell_key ks) more)

keys_miss : Refuses AtKeys AreKeys keys_bytes
keys_miss left e told h ks more is text =
    two_parts (AtNumber 4 Any) (IsNumber 4 Any) (in_bytes 4) (λ n. AtKeysFrom None n) (λ n (xs : List (List ℕ)). (length xs ≡ n) × AreKeysFrom None xs) (flat_map spell_key)
    (number_misses 4 Any one_4) (once 4 Any one_4) (keys_from_miss None) left e told h (length ks) ks more (is.0, tt) (refl, is.1) text

id_misses : (before : Option ℕ) → Refuses (AtId before) (IsId before) spell_id
id_misses before left e told h id more is text = number_misses 8 (IsAbove before) one_8 left e told h id.0 more is text

ids_from_miss : (before : Option ℕ) (n : ℕ) → Refuses (AtIdsFrom before n) (λ (is : List ItemId). (length is ≡ n) × AreIdsFrom before is) (flat_map spell_id)
ids_from_miss before zero left e told h ids more is text = not_told e told h
ids_from_miss before (suc n) left e told h [] more is text = absurd (omega (arith, is.0))
ids_from_miss before (suc n) left e told h (id ∷ ids) more is text =
    two_parts (AtId before) (IsId before) spell_id (λ (x : ItemId). AtIdsFrom (Some x.0) n) (λ (x : ItemId) (xs : List ItemId). (length xs ≡ n) × AreIdsFrom (Some x.0) xs) (flat_map spell_id)
    (id_misses before) (one_id before) (λ (x : ItemId). ids_from_miss (Some x.0) n) left e told h id ids more is.1.0 (omega (arith, is.0), is.1.1) text

ids_miss : Refuses AtIds AreIds ids_bytes
ids_miss left e told h ids more is text =
    two_parts (AtNumber 4 Any) (IsNumber 4 Any) (in_bytes 4) (λ n. AtIdsFrom None n) (λ n (xs : List ItemId). (length xs ≡ n) × AreIdsFrom None xs) (flat_map spell_id)
    (number_misses 4 Any one_4) (once 4 Any one_4) (ids_from_miss None) left e told h (length ids) ids more (is.0, tt) (refl, is.1) text

-- wholes: the parts one behind the other, and then nothing

after_records : (left : Left) (e : RowError) → IsTold e → Then AtRecords AreRecords spell_records (λ records. AtEnd) left e → (rs : List AuxRecord) → AreRecords rs → left.rest ≡ spell_records rs ++ [] → ⊥
after_records left e told (inl h) rs is text = records_miss left e told h rs [] is text
after_records left e told (inr h) rs is text =
    let p = one_records h.part rs h.mid.rest [] h.is_part is (sym h.takes.parts ∙ text) in
    not_at_end h.mid e told h.fault p.1

one_format : (f : Format) → OneOf (λ (byte : ℕ). byte ≡ format_byte f) (λ byte. byte ∷ [])
one_format f m n a b h k e = let p = parted (m ∷ []) (n ∷ []) a b refl e in (h ∙ sym k, p.1)

small_format : (f : Format) → format_byte f < 256
small_format First = omega arith
small_format Second = omega arith

byte_text : (f : Format) → format_byte f ∷ [] ≡ in_bytes 1 (format_byte f)
byte_text First = refl
byte_text Second = refl

format_misses : (f : Format) → Refuses (AtFormat f) (λ (byte : ℕ). byte ≡ format_byte f) (λ byte. byte ∷ [])
format_misses f left e told h byte more is text =
    number_misses 1 (λ v. v ≡ format_byte f) one_1 left e told h (format_byte f) more (omega (arith, small_format f), refl) (text ∙ ap (λ v. (v ∷ []) ++ more) is ∙ ap (λ t. t ++ more) (byte_text f))

pub image_misses : (f : Format) (left : Left) (e : RowError) → IsTold e → AtImage f left e → (i : Image) → IsImageIn f i → left.rest ≡ spell_image_in f i → ⊥
image_misses f left e told (inl h) i is text = format_misses f left e told h (format_byte f) _ refl (text ∙ sym (append-nil (spell_image_in f i)) ∙ image_parts f i [])
image_misses f left e told (inr h) i is text =
    let o = one_format f h.part (format_byte f) h.mid.rest _ h.is_part refl (sym h.takes.parts ∙ text ∙ sym (append-nil (spell_image_in f i)) ∙ image_parts f i []) in
    behind_format h.mid h.fault o.1 where
      behind_header : (mid : Left) → Then (AtTable f) (AreTable f) (spell_rows_in f) (λ rows. Then AtRecords AreRecords spell_records (λ records. AtEnd)) mid e → mid.rest ≡ spell_rows_in f i.rows ++ (spell_records i.records ++ []) → ⊥
      behind_header mid (inl g) same = table_misses f mid e told g i.rows _ is.rows same
      behind_header mid (inr g) same =
          let p = one_table f g.part i.rows _ _ g.is_part is.rows (sym g.takes.parts ∙ same) in
          after_records g.mid e told g.fault i.records is.records p.1

      behind_format : (mid : Left) → Then (AtHeader f) (IsHeaderIn f) (spell_header_in f) (λ h. Then (AtTable f) (AreTable f) (spell_rows_in f) (λ rows. Then AtRecords AreRecords spell_records (λ records. AtEnd))) mid e
          → mid.rest ≡ spell_header_in f i.header ++ (spell_rows_in f i.rows ++ (spell_records i.records ++ [])) → ⊥
      behind_format mid (inl g) same = header_misses f mid e told g i.header _ is.header same
      behind_format mid (inr g) same =
          let p = one_header f g.part i.header _ _ g.is_part is.header (sym g.takes.parts ∙ same) in
          behind_header g.mid g.fault p.1

pub payload_misses : (f : Format) (left : Left) (e : RowError) → IsTold e → AtPayload f left e → (p : Payload) → IsPayloadIn f p → left.rest ≡ spell_payload_in f p → ⊥
payload_misses f left e told (inl h) p is text = header_misses f left e told h p.header _ is.header (text ∙ sym (append-nil (spell_payload_in f p)) ∙ payload_parts f p [])
payload_misses f left e told (inr h) p is text =
    let o = one_header f h.part p.header _ _ h.is_part is.header (sym h.takes.parts ∙ text ∙ sym (append-nil (spell_payload_in f p)) ∙ payload_parts f p []) in
    behind_one h.mid h.fault o.1 where
      behind_three : (mid : Left) → Then AtKeys AreKeys keys_bytes (λ keys. Then AtRecords AreRecords spell_records (λ records. AtEnd)) mid e → mid.rest ≡ keys_bytes p.removed_keys ++ (spell_records p.records ++ []) → ⊥
      behind_three mid (inl g) same = keys_miss mid e told g p.removed_keys _ is.removed_keys same
      behind_three mid (inr g) same =
          let q = one_keys g.part p.removed_keys _ _ g.is_part is.removed_keys (sym g.takes.parts ∙ same) in
          after_records g.mid e told g.fault p.records is.records q.1

      behind_two : (mid : Left) → Then (AtTable f) (AreTable f) (spell_rows_in f) (λ rows. Then AtKeys AreKeys keys_bytes (λ keys. Then AtRecords AreRecords spell_records (λ records. AtEnd))) mid e
          → mid.rest ≡ spell_rows_in f p.rows ++ (keys_bytes p.removed_keys ++ (spell_records p.records ++ [])) → ⊥
      behind_two mid (inl g) same = table_misses f mid e told g p.rows _ is.rows same
      behind_two mid (inr g) same =
          let q = one_table f g.part p.rows _ _ g.is_part is.rows (sym g.takes.parts ∙ same) in
          behind_three g.mid g.fault q.1

      behind_one : (mid : Left) → Then AtIds AreIds ids_bytes (λ ids. Then (AtTable f) (AreTable f) (spell_rows_in f) (λ rows. Then AtKeys AreKeys keys_bytes (λ keys. Then AtRecords AreRecords spell_records (λ records. AtEnd)))) mid e
          → mid.rest ≡ ids_bytes p.removed ++ (spell_rows_in f p.rows ++ (keys_bytes p.removed_keys ++ (spell_records p.records ++ []))) → ⊥
      behind_one mid (inl g) same = ids_miss mid e told g p.removed _ is.removed same
      behind_one mid (inr g) same =
          let q = one_ids g.part p.removed _ _ g.is_part is.removed (sym g.takes.parts ∙ same) in
          behind_two g.mid g.fault q.1

-- as the clauses of readers say it

pub no_image : {T : Type 0} (f : Format) (b : List ℕ) (r : Result T RowError) → IfErr r (AtImage f (record { place = 0; rest = b })) → IfErr r (λ e. IsTold e → (i : Image) → IsImageIn f i → b ≡ spell_image_in f i → ⊥)
no_image f b (Ok x) h = tt
no_image f b (Err e) h = λ told. image_misses f (record { place = 0; rest = b }) e told h

pub no_payload : (f : Format) (b : List ℕ) (e : RowError) → AtPayload f (record { place = 0; rest = b }) e → IsTold e → (p : Payload) → IsPayloadIn f p → b ≡ spell_payload_in f p → ⊥
no_payload f b e h told = payload_misses f (record { place = 0; rest = b }) e told h

pub no_memory : (f : Format) (left : Left) → AtPayload f left OutOfMemory
no_memory f left = inl (inl (inl tt))
