-- What is looked at before changes are made hangs on what is fixed alone.
use Rattle.std.proofs.Common.{◌≡◌, ◌&&◌, ◌||◌, not, ℕ, Bool, List, [], ◌∷◌, length, refl, sym, ◌∙◌, ap}
use Rattle.std.specs.Prelude.{Option, nat_le, nat_lt}
use Rattle.std.specs.List.{list_all, list_any}
use Rattle.cf_base.specs.Policies.{is_always_full}
use Rattle.cf_base.specs.declared.limits.TheConstants.{MOST_FILE_BYTES, MOST_IDENTITY_BYTES, MOST_PATH_NAMES}
use Rattle.cf_base.specs.declared.changes.Change.{Change}
use Rattle.cf_base.specs.declared.changes.Change.TheVariants as change
use Rattle.cf_base.specs.declared.codes.Code.{Code}
use Rattle.cf_base.specs.declared.codes.Code.TheVariants as code
use Rattle.cf_base.specs.declared.ids.ItemId.{ItemId}
use Rattle.cf_base.specs.declared.operations.NewItem.{NewItem}
use Rattle.cf_model.specs.Blocks.{is_full}
use Rattle.cf_model.specs.Books.{Book}
use Rattle.cf_model.specs.Calls.{has_size, room_tests, size_tests, test_of}
use Rattle.cf_model.specs.Changes.{lacks_numbers, no_blocks, no_places, no_table, put_change, put_changes, why_no_room}
use Rattle.cf_model.specs.Images.{is_table_full, table_full}
use Rattle.cf_model.specs.LookUp.{depth_at}
use Rattle.cf_model.specs.Operations.{entries_tests, is_twice, no_table_listed, waiting_after, with_changes}
use Rattle.cf_model.specs.Placements.{asking_tests}
use Rattle.cf_model.specs.Requests.{Live, Nothing, is_list, no_numbers, too_many_asks}
use Rattle.cf_model.specs.State.{Filter, Volume}
use Rattle.cf_model.specs.Texts.{is_name}
use Rattle.cf_model.specs.Words.{first_of, is_empty, when}
use Rattle.cf_check_ways.specs.Ways.{Reads, fixed_filter, of_filter, without_points}
use Rattle.cf_check_ways.proofs.Sure.{reads_fixed}

pub same_table : (v : Volume) (cs : List Change) → no_table v cs ≡ no_table (without_points v) cs
same_table v [] = refl
same_table v (c ∷ cs) = ap (λ (b : Bool). is_table_full c (put_change c v).items (put_change c v).book || b) (same_table (put_change c v) cs ∙ sym (same_table (put_change c (without_points v)) cs))

pub same_blocks : (v : Volume) (cs : List Change) → no_blocks v cs ≡ no_blocks (without_points v) cs
same_blocks v [] = refl
same_blocks v (c ∷ cs) = ap (λ (b : Bool). is_full v.clusters v.items c || b) (same_blocks (put_change c v) cs ∙ sym (same_blocks (put_change c (without_points v)) cs))

same_changes : (v : Volume) (cs : List Change) → without_points (put_changes cs v) ≡ without_points (put_changes cs (without_points v))
same_changes v [] = refl
same_changes v (c ∷ cs) = same_changes (put_change c v) cs ∙ sym (same_changes (put_change c (without_points v)) cs)

pub same_room : (v : Volume) (cs : List Change) → why_no_room cs v ≡ why_no_room cs (without_points v)
same_room v cs =
    ap (λ (b : Bool). first_of ((lacks_numbers v cs, code.Exhausted) ∷ (b, code.TableFull) ∷ (no_blocks v cs, code.Full) ∷ [])) (same_table v cs)
    ∙ ap (λ (b : Bool). first_of ((lacks_numbers v cs, code.Exhausted) ∷ (no_table (without_points v) cs, code.TableFull) ∷ (b, code.Full) ∷ [])) (same_blocks v cs)

pub reads_room : (cs : List Change) → Reads of_filter (room_tests cs)
reads_room cs = reads_fixed of_filter (room_tests cs) (λ s. ap test_of (same_room s.volume cs))

pub reads_size : (item : ItemId) (n : ℕ) → Reads of_filter (size_tests item n)
reads_size item n =
    reads_fixed of_filter (size_tests item n) (λ s. ap (λ (x : Option Code). (nat_lt MOST_FILE_BYTES n, code.TooLarge) ∷ test_of x) (same_room s.volume (when (not (has_size item n s)) (change.Size item n ∷ []))))

changed : (cs : List Change) (s : Filter) → fixed_filter (with_changes cs s) ≡ fixed_filter (with_changes cs (fixed_filter s))
changed cs s = ap (λ (v : Volume). record (fixed_filter s) { volume = v }) (same_changes s.volume cs)

pub reads_asking : (item : ItemId) (cs : List Change) → Reads of_filter (asking_tests item cs)
reads_asking item cs =
    reads_fixed of_filter (asking_tests item cs) (λ s. ap (λ (x : Filter). (too_many_asks (waiting_after item Nothing x), code.TooManyAsks) ∷ (no_places s.volume (length cs) || no_numbers (waiting_after item Nothing x), code.Exhausted) ∷ []) (changed cs s))

same_listed : (f : Book → Book) (cs : List Change) (v : Volume) → no_table_listed f cs v ≡ no_table_listed f cs (without_points v)
same_listed f cs v =
    ap (λ (b : Bool). b || (not (is_empty cs) && table_full (put_changes cs v).items (f (put_changes cs v).book))) (same_table v cs)
    ∙ ap (λ (w : Volume). no_table (without_points v) cs || (not (is_empty cs) && table_full w.items (f w.book))) (same_changes v cs)

pub reads_entries : (f : Book → Book) (a : Live) (list : List NewItem) (cs : List Change) → Reads of_filter (entries_tests f a list cs)
reads_entries f a list cs =
    reads_fixed of_filter (entries_tests f a list cs) (λ s.
    ap (λ (b : Bool).
    (not (is_list a.ask.kind), code.WrongKind) ∷ (not (list_all (λ e. is_name e.name) list), code.BadPath) ∷ (is_twice list, code.Exists)
    ∷ (list_any (λ e. nat_lt MOST_IDENTITY_BYTES (length e.identity)) list, code.IdentityTooLong) ∷ (list_any (λ e. not e.dir && nat_lt MOST_FILE_BYTES e.size) list, code.TooLarge)
    ∷ (list_any (λ e. not e.dir && is_always_full s.policy.hydration && nat_lt 0 e.size) list, code.PolicyDenied)
    ∷ (not (is_empty list) && nat_le MOST_PATH_NAMES (depth_at s.volume.items a.ask.item), code.TooDeep)
    ∷ (b, code.TableFull) ∷ (lacks_numbers s.volume cs, code.Exhausted) ∷ [])
    (same_listed f cs s.volume))
