-- Blocks into which a change puts no bytes.
use Rattle.std.proofs.Common.{◌≡◌, ℕ, zero, suc, ◌+◌, ◌*◌, Bool, true, false, cond, List, [], ◌∷◌, replicate, refl, sym, Option, None}
use Rattle.std.proofs.lemmas.Bool.{true≢false}
use Rattle.cf_base.specs.declared.changes.Change.{Change}
use Rattle.cf_base.specs.declared.changes.Change.TheVariants as change
use Rattle.cf_base.specs.declared.ids.ItemId.{ItemId}
use Rattle.cf_base.specs.declared.ids.Usn.{Usn}
use Rattle.cf_base.specs.declared.items.Pin.{Pin}
use Rattle.cf_volume_blocks.specs.Bytes.{HoldsBlock, byte_is, holds_at}
use Rattle.cf_model.specs.Items.{Item}
use Rattle.cf_model.specs.Words.{by_place, passes_at}
use Rattle.cf_table.specs.Applied.{item_effect}

pub left_in : (leaves : ℕ → Bool) (at : ℕ) (held : List (Option ℕ)) (p v : ℕ) → passes_at (byte_is v) (by_place (λ q h. cond (leaves q) None h) at held) p ≡ true → passes_at (byte_is v) held p ≡ true
left_in leaves at [] p v e = absurd (true≢false (sym e))
left_in leaves at (h ∷ hs) zero v e = by (leaves at) e
  where
    by : (b : Bool) → byte_is v (cond b None h) ≡ true → byte_is v h ≡ true
    by true t = absurd (true≢false (sym t))
    by false t = t
left_in leaves at (h ∷ hs) (suc p) v e = left_in leaves (at + 1) hs p v e

pub none_in : (n p v : ℕ) → holds_at (replicate n None) p v ≡ true → ⊥
none_in zero p v e = true≢false (sym e)
none_in (suc n) zero v e = true≢false (sym e)
none_in (suc n) (suc p) v e = none_in n p v e

-- what neither writes, sizes nor fills gives no byte
pub others : (c : Change) → ((x : ItemId) (y : ℕ) (z : List ℕ) → c ≡ change.Write x y z → ⊥) → ((x : ItemId) (y : ℕ) → c ≡ change.Size x y → ⊥) → ((x : ItemId) (y : ℕ) (z : List ℕ) → c ≡ change.Filled x y z → ⊥)
    → (i : Item) (pin : Pin) (n : Usn) (number : ℕ) (bytes : List ℕ) → HoldsBlock i.held number bytes → HoldsBlock (item_effect c pin n i).held number bytes
others (change.Make item parent name kind size identity) w s f i pin n number bytes h = h
others (change.Remove item) w s f i pin n number bytes h = h
others (change.Move item parent name) w s f i pin n number bytes h = h
others (change.Write item at news) w s f i pin n number bytes h = absurd (w item at news refl)
others (change.Size item size) w s f i pin n number bytes h = absurd (s item size refl)
others (change.Filled item start news) w s f i pin n number bytes h = absurd (f item start news refl)
others (change.Validated item start len) w s f i pin n number bytes h = h
others (change.Emptied item start len) w s f i pin n number bytes h = λ q v low e. h q v low (left_in _ 0 i.held (4096 * number + q) v e)
others (change.SetPin item state) w s f i pin n number bytes h = h
others (change.Mark item at) w s f i pin n number bytes h = h
others (change.Clear item) w s f i pin n number bytes h = h
others (change.Convert item identity) w s f i pin n number bytes h = h
others (change.Revert item) w s f i pin n number bytes h = h
others (change.Rebase item identity len at) w s f i pin n number bytes h = h
others (change.Take item identity size) w s f i pin n number bytes h = λ q v low e. absurd (none_in size (4096 * number + q) v e)
others (change.Copy item from parent name) w s f i pin n number bytes h = h
others (change.Populated item) w s f i pin n number bytes h = h
others (change.Keep item on) w s f i pin n number bytes h = h
