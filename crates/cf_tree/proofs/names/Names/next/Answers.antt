use Rattle.std.proofs.Common.{◌∙◌, List, Option, ℕ, ap, sym, lit<}
use denote.Ref.{Bor}
use Rattle.std.specs.Prelude.{option_copied}
use Rattle.std.proofs.lemmas.Str.Pattern.{split_parts}
use Rattle.cf_model.specs.Words.{split_at}
use Rattle.cf_tree.specs.Parts.{names_in}
use Rattle.cf_tree.proofs.Cuts.{cut_at, uncut}
use Rattle.cf_tree.proofs.names.Names.next.Goals as goal

pub returns-in-Some : goal.returns-in-Some
returns-in-Some c =
    let parts = split_parts 47 c.in_ok-text.text.now c.split_once.result c.split_once.ensures.cases (lit< tt) in
    let h = rw c.in-Some.is at parts in
    sym c.self.view_is ∙ ap (λ (o : Option (Bor (List ℕ))). names_in (option_copied o)) c.in_ok-text.was ∙ ap (split_at 47) h.0 ∙ cut_at c.in-Some.name.now c.in-Some.rest.now h.1

pub returns-in-None : goal.returns-in-None
returns-in-None c =
    let parts = split_parts 47 c.in_ok-text.text.now c.split_once.result c.split_once.ensures.cases (lit< tt) in
    let h = rw c.in-None.is at parts in
    sym c.self.view_is ∙ ap (λ (o : Option (Bor (List ℕ))). names_in (option_copied o)) c.in_ok-text.was ∙ uncut c.in_ok-text.text.now h
