-- A text is the spelling of one image, and of one payload.
use Rattle.std.proofs.Common.{◌≡◌, ℕ, List, [], ◌∷◌, ◌++◌, length, refl, sym, ap, subst, ◌∙◌, append_assoc, arith, Option, Some, None}
use Rattle.std.specs.List.{flat_map}
use Rattle.cf_base.specs.declared.answers.AuxRecord.{AuxRecord}
use Rattle.cf_base.specs.declared.ids.ItemId.{ItemId}
use Rattle.cf_base.specs.declared.ids.Usn.{Usn}
use Rattle.cf_codec.specs.declared.formats.Format.{Format}
use Rattle.cf_codec.specs.declared.formats.Format.TheVariants.{First, Second}
use Rattle.cf_model.specs.FirstFormats as first
use Rattle.cf_model.specs.Formats.{Header, Image, Payload, spell_header, spell_id, spell_key, spell_record, spell_records, spell_rows}
use Rattle.cf_model.specs.Rows.{Row}
use Rattle.cf_model.specs.Words.{in_bytes}
use Rattle.cf_table.proofs.OneRow.{one_table}
use Rattle.cf_table.proofs.OneText.{OneOf, one_4, one_8, one_identity, one_name, one_ticks, one_usn, parted}
use Rattle.cf_table.specs.Reading.{identity_bytes, ticks_bytes}
use Rattle.cf_table.specs.Spelling.{spell_rows_in}
use Rattle.cf_volume_image.specs.Spelled.{AreIds, AreIdsFrom, AreKeys, AreKeysFrom, AreRecords, AreRecordsFrom, AreSpelledIn, IsHeaderIn, IsId, IsImageIn, IsKey, IsPayloadIn, IsRecord, format_byte, ids_bytes, keys_bytes, spell_header_in, spell_image_in, spell_payload_in}

pub one_header : (f : Format) → OneOf (IsHeaderIn f) (spell_header_in f)
one_header f m n a b h k e =
    let p = one_usn m.last n.last (in_bytes 8 m.count ++ in_bytes 8 m.next.0 ++ ticks_bytes f m.clock ++ a) (in_bytes 8 n.count ++ in_bytes 8 n.next.0 ++ ticks_bytes f n.clock ++ b) h.0 k.0 e in
    let q = one_8 m.count n.count (in_bytes 8 m.next.0 ++ ticks_bytes f m.clock ++ a) (in_bytes 8 n.next.0 ++ ticks_bytes f n.clock ++ b) h.1 k.1 p.1 in
    let r = one_8 m.next.0 n.next.0 (ticks_bytes f m.clock ++ a) (ticks_bytes f n.clock ++ b) h.2 k.2 q.1 in
    let s = one_ticks f m.clock n.clock a b h.3 k.3 r.1 in
    (same m.last n.last m.count n.count m.next.0 n.next.0 m.clock n.clock p.0 q.0 r.0 s.0, s.1) where
      same : (a b : Usn) (c d e f g h : ℕ) → a ≡ b → c ≡ d → e ≡ f → g ≡ h →
          ◌≡◌ {A = Header} (record { last = a; count = c; next = record { 0 = e }; clock = g }) (record { last = b; count = d; next = record { 0 = f }; clock = h })
      same a b c d e f g h i j k l =
          ap (λ x. record { last = x; count = c; next = record { 0 = e }; clock = g }) i ∙ ap (λ x. record { last = b; count = x; next = record { 0 = e }; clock = g }) j
          ∙ ap (λ x. record { last = b; count = d; next = record { 0 = x }; clock = g }) k ∙ ap (λ x. record { last = b; count = d; next = record { 0 = f }; clock = x }) l

pub one_key : (before : Option (List ℕ)) → OneOf (IsKey before) spell_key
one_key before m n a b h k e = one_name m n a b h.0 k.0 e

pub record_parts : (r : AuxRecord) (more : List ℕ) → spell_record r ++ more ≡ spell_key r.key ++ (identity_bytes r.value ++ more)
record_parts r more = generic (spell_key r.key) (in_bytes 2 (length r.value)) r.value more where
  generic : (k c v more : List ℕ) → ((k ++ c) ++ v) ++ more ≡ k ++ ((c ++ v) ++ more)
  generic k c v more = simp append_assoc

pub one_record : (before : Option (List ℕ)) → OneOf (IsRecord before) spell_record
one_record before m n a b h k e =
    let p = one_key before m.key n.key (identity_bytes m.value ++ a) (identity_bytes n.value ++ b) h.0 k.0 (sym (record_parts m a) ∙ e ∙ record_parts n b) in
    let q = one_identity m.value n.value a b h.1 k.1 p.1 in
    (same m.key n.key m.value n.value p.0 q.0, q.1) where
      same : (a b c d : List ℕ) → a ≡ b → c ≡ d → ◌≡◌ {A = AuxRecord} (record { key = a; value = c }) (record { key = b; value = d })
      same a b c d e f = ap (λ x. record { key = x; value = c }) e ∙ ap (λ x. record { key = b; value = x }) f

one_record_list : (before : Option (List ℕ)) (xs ys : List AuxRecord) (a b : List ℕ) → length xs ≡ length ys → AreRecordsFrom before xs → AreRecordsFrom before ys → flat_map spell_record xs ++ a ≡ flat_map spell_record ys ++ b → (xs ≡ ys) × (a ≡ b)
one_record_list before [] [] a b l h k e = (refl, e)
one_record_list before [] (y ∷ ys) a b l h k e = absurd (omega arith)
one_record_list before (x ∷ xs) [] a b l h k e = absurd (omega arith)
one_record_list before (x ∷ xs) (y ∷ ys) a b l h k e =
    let f : spell_record x ++ (flat_map spell_record xs ++ a) ≡ spell_record y ++ (flat_map spell_record ys ++ b) = sym (append_assoc (spell_record x) (flat_map spell_record xs) a) ∙ e ∙ append_assoc (spell_record y) (flat_map spell_record ys) b in
    let p = one_record before x y (flat_map spell_record xs ++ a) (flat_map spell_record ys ++ b) h.0 k.0 f in
    let q = one_record_list (Some x.key) xs ys a b (omega arith) h.1 (subst (λ (z : AuxRecord). AreRecordsFrom (Some z.key) ys) (sym p.0) k.1) p.1 in
    (ap (λ v. v ∷ xs) p.0 ∙ ap (λ v. y ∷ v) q.0, q.1)

pub one_records : OneOf AreRecords spell_records
one_records m n a b h k e =
    let p = one_4 (length m) (length n) (flat_map spell_record m ++ a) (flat_map spell_record n ++ b) h.0 k.0 e in
    one_record_list None m n a b p.0 h.1 k.1 p.1

one_key_list : (before : Option (List ℕ)) (xs ys : List (List ℕ)) (a b : List ℕ) → length xs ≡ length ys → AreKeysFrom before xs → AreKeysFrom before ys → flat_map spell_key xs ++ a ≡ flat_map spell_key ys ++ b → (xs ≡ ys) × (a ≡ b)
one_key_list before [] [] a b l h k e = (refl, e)
one_key_list before [] (y ∷ ys) a b l h k e = absurd (omega arith)
one_key_list before (x ∷ xs) [] a b l h k e = absurd (omega arith)
one_key_list before (x ∷ xs) (y ∷ ys) a b l h k e =
    let f : spell_key x ++ (flat_map spell_key xs ++ a) ≡ spell_key y ++ (flat_map spell_key ys ++ b) = sym (append_assoc (spell_key x) (flat_map spell_key xs) a) ∙ e ∙ append_assoc (spell_key y) (flat_map spell_key ys) b in
    let p = one_key before x y (flat_map spell_key xs ++ a) (flat_map spell_key ys ++ b) h.0 k.0 f in
    let q = one_key_list (Some x) xs ys a b (omega arith) h.1 (subst (λ (z : List ℕ). AreKeysFrom (Some z) ys) (sym p.0) k.1) p.1 in
    (ap (λ v. v ∷ xs) p.0 ∙ ap (λ v. y ∷ v) q.0, q.1)

pub one_keys : OneOf AreKeys keys_bytes
one_keys m n a b h k e =
    let p = one_4 (length m) (length n) (flat_map spell_key m ++ a) (flat_map spell_key n ++ b) h.0 k.0 e in
    one_key_list None m n a b p.0 h.1 k.1 p.1

pub one_id : (before : Option ℕ) → OneOf (IsId before) spell_id
one_id before m n a b h k e = let p = one_8 m.0 n.0 a b h.0 k.0 e in (ap (λ x. record { 0 = x }) p.0, p.1)

one_id_list : (before : Option ℕ) (xs ys : List ItemId) (a b : List ℕ) → length xs ≡ length ys → AreIdsFrom before xs → AreIdsFrom before ys → flat_map spell_id xs ++ a ≡ flat_map spell_id ys ++ b → (xs ≡ ys) × (a ≡ b)
one_id_list before [] [] a b l h k e = (refl, e)
one_id_list before [] (y ∷ ys) a b l h k e = absurd (omega arith)
one_id_list before (x ∷ xs) [] a b l h k e = absurd (omega arith)
one_id_list before (x ∷ xs) (y ∷ ys) a b l h k e =
    let p = one_id before x y (flat_map spell_id xs ++ a) (flat_map spell_id ys ++ b) h.0 k.0 e in
    let q = one_id_list (Some x.0) xs ys a b (omega arith) h.1 (subst (λ (z : ItemId). AreIdsFrom (Some z.0) ys) (sym p.0) k.1) p.1 in
    (ap (λ v. v ∷ xs) p.0 ∙ ap (λ v. y ∷ v) q.0, q.1)

pub one_ids : OneOf AreIds ids_bytes
one_ids m n a b h k e =
    let p = one_4 (length m) (length n) (flat_map spell_id m ++ a) (flat_map spell_id n ++ b) h.0 k.0 e in
    one_id_list None m n a b p.0 h.1 k.1 p.1

-- wholes

image_of_parts : (byte : ℕ) (h r x more : List ℕ) → ((byte ∷ h) ++ r ++ x) ++ more ≡ byte ∷ (h ++ (r ++ (x ++ more)))
image_of_parts byte h r x more = simp append_assoc

pub image_parts : (f : Format) (i : Image) (more : List ℕ) → spell_image_in f i ++ more ≡ format_byte f ∷ (spell_header_in f i.header ++ (spell_rows_in f i.rows ++ (spell_records i.records ++ more)))
image_parts First i more = image_of_parts 1 (first.spell_header i.header) (first.spell_rows i.rows) (spell_records i.records) more
image_parts Second i more = image_of_parts 2 (spell_header i.header) (spell_rows i.rows) (spell_records i.records) more

pub one_image : (f : Format) → OneOf (IsImageIn f) (spell_image_in f)
one_image f m n a b h k e =
    let z : format_byte f ∷ (spell_header_in f m.header ++ (spell_rows_in f m.rows ++ (spell_records m.records ++ a))) ≡ format_byte f ∷ (spell_header_in f n.header ++ (spell_rows_in f n.rows ++ (spell_records n.records ++ b))) = sym (image_parts f m a) ∙ e ∙ image_parts f n b in
    let o = parted (format_byte f ∷ []) (format_byte f ∷ []) (spell_header_in f m.header ++ (spell_rows_in f m.rows ++ (spell_records m.records ++ a))) (spell_header_in f n.header ++ (spell_rows_in f n.rows ++ (spell_records n.records ++ b))) refl z in
    let p = one_header f m.header n.header _ _ h.header k.header o.1 in
    let q = one_table f m.rows n.rows _ _ h.rows k.rows p.1 in
    let r = one_records m.records n.records a b h.records k.records q.1 in
    (same m.header n.header m.rows n.rows m.records n.records p.0 q.0 r.0, r.1) where
      same : (a b : Header) (c d : List Row) (e f : List AuxRecord) → a ≡ b → c ≡ d → e ≡ f → ◌≡◌ {A = Image} (record { header = a; rows = c; records = e }) (record { header = b; rows = d; records = f })
      same a b c d e f g h i = ap (λ x. record { header = x; rows = c; records = e }) g ∙ ap (λ x. record { header = b; rows = x; records = e }) h ∙ ap (λ x. record { header = b; rows = d; records = x }) i

payload_of_parts : (h c i r d k x more : List ℕ) → ((((((h ++ c) ++ i) ++ r) ++ d) ++ k) ++ x) ++ more ≡ h ++ ((c ++ i) ++ (r ++ ((d ++ k) ++ (x ++ more))))
payload_of_parts h c i r d k x more = simp append_assoc

pub payload_parts : (f : Format) (p : Payload) (more : List ℕ) → spell_payload_in f p ++ more ≡ spell_header_in f p.header ++ (ids_bytes p.removed ++ (spell_rows_in f p.rows ++ (keys_bytes p.removed_keys ++ (spell_records p.records ++ more))))
payload_parts First p more = payload_of_parts (first.spell_header p.header) (in_bytes 4 (length p.removed)) (flat_map spell_id p.removed) (first.spell_rows p.rows) (in_bytes 4 (length p.removed_keys)) (flat_map spell_key p.removed_keys) (spell_records p.records) more
payload_parts Second p more = payload_of_parts (spell_header p.header) (in_bytes 4 (length p.removed)) (flat_map spell_id p.removed) (spell_rows p.rows) (in_bytes 4 (length p.removed_keys)) (flat_map spell_key p.removed_keys) (spell_records p.records) more

pub one_payload : (f : Format) → OneOf (IsPayloadIn f) (spell_payload_in f)
one_payload f m n a b h k e =
    let z = sym (payload_parts f m a) ∙ e ∙ payload_parts f n b in
    let p = one_header f m.header n.header _ _ h.header k.header z in
    let q = one_ids m.removed n.removed _ _ h.removed k.removed p.1 in
    let r = one_table f m.rows n.rows _ _ h.rows k.rows q.1 in
    let s = one_keys m.removed_keys n.removed_keys _ _ h.removed_keys k.removed_keys r.1 in
    let t = one_records m.records n.records a b h.records k.records s.1 in
    (same m.header n.header m.removed n.removed m.rows n.rows m.removed_keys n.removed_keys m.records n.records p.0 q.0 r.0 s.0 t.0, t.1) where
      same : (a b : Header) (c d : List ItemId) (e f : List Row) (g h : List (List ℕ)) (i j : List AuxRecord) → a ≡ b → c ≡ d → e ≡ f → g ≡ h → i ≡ j →
          ◌≡◌ {A = Payload} (record { header = a; removed = c; rows = e; removed_keys = g; records = i }) (record { header = b; removed = d; rows = f; removed_keys = h; records = j })
      same a b c d e f g h i j k l m n o =
          ap (λ x. record { header = x; removed = c; rows = e; removed_keys = g; records = i }) k ∙ ap (λ x. record { header = b; removed = x; rows = e; removed_keys = g; records = i }) l
          ∙ ap (λ x. record { header = b; removed = d; rows = x; removed_keys = g; records = i }) m ∙ ap (λ x. record { header = b; removed = d; rows = f; removed_keys = x; records = i }) n
          ∙ ap (λ x. record { header = b; removed = d; rows = f; removed_keys = h; records = x }) o

-- a text on its own
pub alone : {X : Type 0} (Is : X → Type 0) (spell : X → List ℕ) → OneOf Is spell → (x y : X) → Is x → Is y → spell x ≡ spell y → x ≡ y
alone Is spell one x y h k e = (one x y [] [] h k (ap (λ t. t ++ []) e)).0

pub one_list_of_payloads : (f : Format) (ts : List (List ℕ)) (ps qs : List Payload) → AreSpelledIn f ts ps → AreSpelledIn f ts qs → ps ≡ qs
one_list_of_payloads f [] [] [] h k = refl
one_list_of_payloads f [] [] (q ∷ qs) h k = absurd k
one_list_of_payloads f [] (p ∷ ps) qs h k = absurd h
one_list_of_payloads f (t ∷ ts) [] qs h k = absurd h
one_list_of_payloads f (t ∷ ts) (p ∷ ps) [] h k = absurd k
one_list_of_payloads f (t ∷ ts) (p ∷ ps) (q ∷ qs) h k =
    ap (λ v. v ∷ ps) (alone (IsPayloadIn f) (spell_payload_in f) (one_payload f) p q h.0 k.0 (sym h.1 ∙ k.1)) ∙ ap (λ v. q ∷ v) (one_list_of_payloads f ts ps qs h.2 k.2)
