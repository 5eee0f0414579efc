use Rattle.std.proofs.Common.{[], ◌∷◌, ◌<◌, ◌≤◌, Some, List, Bor, ℕ, subst, get_or, length, arith}
use Rattle.cf_base.specs.declared.operations.NewItem.{NewItem}
use Rattle.cf_script_words.specs.Words.{Reads}
use Rattle.cf_script_words.specs.Entries.{AreEntries}
use Rattle.cf_script_words.proofs.WordLists.{first_word, no_word, texts, after}
use Rattle.cf_script_words.proofs.EntriesRead.{Continues, entries_more, entries_stop, entries_end}
use Rattle.cf_script_words.proofs.directory_entries.entries.Goals as goal

split : (all : List (List ℕ)) (front : List NewItem) (rest : List (Bor (List ℕ))) → Continues all front (texts rest) → 1 ≤ length rest → Continues all front ((get_or rest 0 no_word).now ∷ texts (after 1 rest))
split all front rest goes some = subst (Continues all front) (first_word rest some) goes

ended : (all : List (List ℕ)) (front : List NewItem) (rest : List (Bor (List ℕ))) → Continues all front (texts rest) → length rest < 1 → Reads (AreEntries all) (Some front)
ended all front [] goes none = entries_end all front goes
ended all front (w ∷ ws) goes none = absurd (omega arith)

pub loop-rest-preserved : goal.loop-rest-preserved
loop-rest-preserved c =
    rw c.in_ok-push.ensures.items (entries_more (texts c.args.words.now) c.loop-rest.list.items (get_or c.loop-rest.rest.now 0 no_word).now (texts (after 1 c.loop-rest.rest.now)) c.in-Some.item
    (split (texts c.args.words.now) c.loop-rest.list.items c.loop-rest.rest.now c.loop-rest.invariant c.in-len1-up.len_at_least) (rw c.in-Some.is at c.in_ok-item.ensures))

pub returns-in_default-2 : goal.returns-in_default-2
returns-in_default-2 c =
    entries_stop (texts c.args.words.now) c.loop-rest.list.items (get_or c.loop-rest.rest.now 0 no_word).now (texts (after 1 c.loop-rest.rest.now))
    (split (texts c.args.words.now) c.loop-rest.list.items c.loop-rest.rest.now c.loop-rest.invariant c.in-len1-up.len_at_least) (rw c.in_default-2.is at c.in_ok-item.ensures)

pub returns : goal.returns
returns c = rw c.from_vec.ensures (ended (texts c.args.words.now) c.loop-rest.list.items c.loop-rest.rest.now c.loop-rest.invariant c.in_default.len_below)
