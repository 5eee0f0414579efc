-- The entry of a name in a directory of a remote: what its listing has under the name.
use Rattle.std.specs.Prelude.{◌≡◌, ◌⊎◌, ℕ, cond, List, Option, Result, Ok, Err}
use Rattle.cf_base.specs.declared.ids.Key.{Key}
use Rattle.cf_base.specs.declared.ids.Rid.{Rid}
use Rattle.cf_base.specs.declared.messages.Entry.{Entry}
use Rattle.cf_base.specs.declared.messages.Reply.{Reply}
use Rattle.cf_base.specs.declared.messages.Reply.TheVariants as reply
use Rattle.cf_model.specs.Peers.{is_fit, list_of, named}
use Rattle.cf_remote.specs.Told.{Answers, Faults, Told}
use Rattle.cf_remote.specs.declared.find_errors.FindError.{FindError}
use Rattle.cf_remote.specs.declared.find_errors.FindError.TheVariants.{Fault, OutOfMemory, Stray}

-- what the reply to a List has under a name, where it fits and is a listing
abbrev pub found_in : Rid → List ℕ → Reply → Result (Option Entry) FindError
found_in rid name (reply.Listing key es) = cond (is_fit (list_of rid) (reply.Listing key es)) (Ok (named name es)) (Err (Stray (reply.Listing key es)))
found_in rid name r = Err (Stray r)

-- the entries of a listing, or a reply that is none
abbrev pub IsListed : Reply → Result (List Entry) FindError → Type 0
IsListed r (Ok es) = (key : Key) × (r ≡ reply.Listing key es)
IsListed r (Err e) = (e ≡ Stray r) × ((rid : Rid) (name : List ℕ) → found_in rid name r ≡ Err (Stray r))

-- what is found in a reply, where there is memory to look
abbrev pub IsFoundIn : Rid → List ℕ → Reply → Result (Option Entry) FindError → Type 0
IsFoundIn rid name r (Ok e) = Ok e ≡ found_in rid name r
IsFoundIn rid name r (Err (Stray stray)) = Err (Stray stray) ≡ found_in rid name r
IsFoundIn rid name r (Err Fault) = ⊥
IsFoundIn rid name r (Err OutOfMemory) = Unit {0}

-- One ask, a List of the directory, and what its reply has under the name. Without memory the ask was made, or nothing was.
abbrev pub FindsEntry : Rid → List ℕ → Told → Result (Option Entry) FindError → Told → Type 0
FindsEntry rid name old (Ok e) new = (r : Reply) × Answers (list_of rid) r old new × (Ok e ≡ found_in rid name r)
FindsEntry rid name old (Err (Stray stray)) new = Answers (list_of rid) stray old new × (Err (Stray stray) ≡ found_in rid name stray)
FindsEntry rid name old (Err Fault) new = Faults old new
FindsEntry rid name old (Err OutOfMemory) new = (new ≡ old) ⊎ ((r : Reply) × Answers (list_of rid) r old new)
