-- Calls that add no notes.
use Rattle.std.proofs.Common.{Bool, true, false, List}
use Rattle.std.specs.Prelude.{Option, Some, None, Result, Ok, Err, ℕ}
use Rattle.cf_filter_events.proofs.Asked.{Hush}
use Rattle.cf_base.specs.declared.answers.Shown.{Shown}
use Rattle.cf_base.specs.declared.answers.Shown.TheVariants as shown
use Rattle.cf_base.specs.declared.codes.Code.{Code}
use Rattle.cf_base.specs.declared.codes.Code.TheVariants as code
use Rattle.cf_base.specs.declared.policies.Mode.{Mode}
use Rattle.cf_base.specs.declared.policies.Policy.{Policy}
use Rattle.cf_model.specs.Arrows.{Arrow, Preserves, choose, ret, unless}
use Rattle.cf_model.specs.Calls.{flush, next_handle, open_file, open_item, open_tests, opened_as, policy_tests, set_policy, with_policy}
use Rattle.cf_model.specs.Items.{Item}
use Rattle.cf_model.specs.LookUp.{find_path}
use Rattle.cf_model.specs.State.{Filter}
use Rattle.cf_model.specs.Trees.{Keeps}
use Rattle.cf_model.specs.Waits.{but_directory, on_ok}
use Rattle.cf_model.specs.Words.{first_of}

pub flush_hush : Preserves Hush flush
flush_hush = record { keeps = λ f h. (h, h) }

unless_hush : (g : Arrow Filter Shown) (o : Option Code) (f : Filter) → Hush f → Keeps Hush (g f) → Keeps Hush (unless shown.Refused o g f)
unless_hush g None f h k = k
unless_hush g (Some c) f h k = h

open_item_hush : (i : Item) (f : Filter) → Hush f → Keeps Hush (open_item i f)
open_item_hush i f h = unless_hush (λ s. opened_as i.id (next_handle s) s) (first_of (open_tests f)) f h h

choose_hush : (b : Bool) (i : Item) (f : Filter) → Hush f → Keeps Hush (choose b (ret (shown.Refused code.IsDirectory)) (open_item i) f)
choose_hush true i f h = h
choose_hush false i f h = open_item_hush i f h

found_hush : (r : Result Item Code) (f : Filter) → Hush f → Keeps Hush (on_ok (but_directory open_item) r f)
found_hush (Ok i) f h = choose_hush i.directory i f h
found_hush (Err c) f h = h

pub open_hush : (path : List ℕ) → Preserves Hush (open_file path)
open_hush path = record { keeps = λ f h. found_hush (find_path f.volume.items path) f h }

pub policy_hush : (m : Mode) (p : Policy) → Preserves Hush (set_policy m p)
policy_hush m p = record { keeps = λ f h. unless_hush (λ s. ret shown.Done (with_policy p s)) (first_of (policy_tests m p f)) f h h }
