-- Pieces of text that are put one after another.
use Rattle.std.proofs.Common.{◌≡◌, ◌++◌, ℕ, List, Result, Ok, Err, OnOk, sym, append_assoc}
use Rattle.std.proofs.lemmas.List.{append-nil}

pub ruleset joins = (append_assoc, append-nil)

-- what a call adds after what stands there already
pub joined : {E : Type 0} (result : Result (Unit {0}) E) (start middle end first second : List ℕ) (both : List ℕ) → middle ≡ start ++ first → first ++ second ≡ both → OnOk result (end ≡ middle ++ second) → OnOk result (end ≡ start ++ both)
joined (Ok done) start middle end first second both before same after = rw (after, before, sym same) (append_assoc start first second)
joined (Err e) start middle end first second both before same after = after

pub added : (start middle end first second : List ℕ) → middle ≡ start ++ first → end ≡ middle ++ second → end ≡ start ++ (first ++ second)
added start middle end first second before after = rw (after, before) (append_assoc start first second)
