-- The contents after a payload.
use Rattle.std.proofs.Common.{◌≡◌, ℕ, List, ap, ◌∙◌}
use Rattle.cf_base.specs.declared.answers.AuxRecord.{AuxRecord}
use Rattle.cf_base.specs.declared.ids.ItemId.{ItemId}
use Rattle.cf_base.specs.declared.ids.Usn.{Usn}
use Rattle.cf_model.specs.Formats.{Image}
use Rattle.cf_model.specs.Rows.{Row}

pub applied : (last : Usn) (count clock : ℕ) (n m : ItemId) (rows new_rows : List Row) (records new_records : List AuxRecord) → n ≡ m → rows ≡ new_rows → records ≡ new_records →
    ◌≡◌ {A = Image} (record { header = record { last = last; count = count; next = n; clock = clock }; rows = rows; records = records })
    (record { header = record { last = last; count = count; next = m; clock = clock }; rows = new_rows; records = new_records })
applied last count clock n m rows new_rows records new_records a b c =
    ap (λ x. record { header = record { last = last; count = count; next = x; clock = clock }; rows = rows; records = records }) a
    ∙ ap (λ x. record { header = record { last = last; count = count; next = m; clock = clock }; rows = x; records = records }) b
    ∙ ap (λ x. record { header = record { last = last; count = count; next = m; clock = clock }; rows = new_rows; records = x }) c
