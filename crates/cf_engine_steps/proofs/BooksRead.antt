-- What is read of the records of a book is read of the filter.
use Rattle.std.proofs.Common.{◌≡◌, List}
use Rattle.std.specs.Prelude.{Result, Ok, Err, IfOk}
use Rattle.cf_base.specs.declared.answers.AuxRecord.{AuxRecord}
use Rattle.cf_base.specs.declared.memory.OutOfMemory.{OutOfMemory as NoMemory}
use Rattle.cf_engine_host.specs.BookSteps.{records_of}
use Rattle.cf_engine_queue.specs.Records.{IsKeepable}
use Rattle.cf_model.specs.Books.{Book, aux_records}
use Rattle.cf_model.specs.State.{Filter}
use Rattle.cf_filter_steps.specs.Answering as steps

module _ {X V : Type 0} (S : steps.Sense X) (keepable : (x : X) (s : Filter) → S.means x s → IsKeepable s.volume.book) (x : X) (rs : List AuxRecord) (reads : steps.Reads S steps.Any records_of x rs) (v : Book → V) where
  pub read_of : (r : V) → ((b : Book) → IsKeepable b → rs ≡ aux_records b → r ≡ v b) → steps.Reads S steps.Any (λ s. v s.volume.book) x r
  read_of r h = record { is = λ s m a. h s.volume.book (keepable x s m) (reads.is s m (record {})) }

  -- where there was memory for it
  pub read_if : {A : Type 0} (get : A → V) (r : Result A NoMemory) → ((b : Book) → IsKeepable b → rs ≡ aux_records b → IfOk r (λ a. get a ≡ v b)) → IfOk r (λ a. steps.Reads S steps.Any (λ s. v s.volume.book) x (get a))
  read_if get (Ok a) h = read_of (get a) h
  read_if get (Err e) h = tt
