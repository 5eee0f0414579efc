use Rattle.std.proofs.Common.{◌≡◌, ◌++◌, ◌∷◌, [], ◌∙◌, List, Option, ap, append-nil, arith, length, length-append, subst, sym}
use Rattle.std.specs.Prelude.{option_to_list, reverse}
use Rattle.std.specs.List.{AllByRecursion}
use Rattle.std.proofs.lemmas.List.{length-reverse, reverse-append, reverse-reverse}
use Rattle.cf_model.specs.Requests.{Live}
use Rattle.cf_waits.proofs.Turning.{glue, no_length, rising_cut}
use Rattle.cf_waits.specs.Rising.{ask_key}
use Rattle.cf_waits.proofs.turns.add_asks.Goals as goal

pub loop-a-init : goal.loop-a-init
loop-a-init c =
    let same : reverse c.reverse.new.self.items ≡ c.args.made.items = ap (λ (l : List Live). reverse l) c.reverse.ensures.items ∙ reverse-reverse c.args.made.items in
    record {
      all = ap (λ (l : List Live). c.args.book.now.asks ++ l) same;
      begins = subst (λ (l : List Live). AllByRecursion (λ a. a.ticks ≡ 0) l) (sym same) c.requires.begins;
      room = omega (arith, ap (λ (l : List Live). length l) c.reverse.ensures.items, length-reverse c.args.made.items, c.requires.room);
    }

pub add-requires-clause-rising : goal.add-requires-clause-rising
add-requires-clause-rising c =
    let rest : c.loop-a.rest.items ≡ c.pop.new.self.items ++ c.in-Some.a ∷ [] = c.pop.ensures.items ∙ ap (λ (o : Option Live). c.pop.new.self.items ++ option_to_list o) c.in-Some.is in
    let turned : reverse c.loop-a.rest.items ≡ c.in-Some.a ∷ reverse c.pop.new.self.items = ap (λ (l : List Live). reverse l) rest ∙ reverse-append c.pop.new.self.items (c.in-Some.a ∷ []) in
    rising_cut ask_key _ c.loop-a.book.asks c.in-Some.a (reverse c.pop.new.self.items) c.requires.rising (ap (λ (l : List Live). c.loop-a.book.asks ++ l) (sym turned) ∙ c.loop-a.invariant.all)

pub add-requires-clause-begins : goal.add-requires-clause-begins
add-requires-clause-begins c =
    let rest : c.loop-a.rest.items ≡ c.pop.new.self.items ++ c.in-Some.a ∷ [] = c.pop.ensures.items ∙ ap (λ (o : Option Live). c.pop.new.self.items ++ option_to_list o) c.in-Some.is in
    let turned : reverse c.loop-a.rest.items ≡ c.in-Some.a ∷ reverse c.pop.new.self.items = ap (λ (l : List Live). reverse l) rest ∙ reverse-append c.pop.new.self.items (c.in-Some.a ∷ []) in
    (subst (λ (l : List Live). AllByRecursion (λ a. a.ticks ≡ 0) l) turned c.loop-a.invariant.begins).0

pub add-requires-clause-room : goal.add-requires-clause-room
add-requires-clause-room c =
    let rest : c.loop-a.rest.items ≡ c.pop.new.self.items ++ c.in-Some.a ∷ [] = c.pop.ensures.items ∙ ap (λ (o : Option Live). c.pop.new.self.items ++ option_to_list o) c.in-Some.is in
    omega (arith, c.loop-a.invariant.room, ap (λ (l : List Live). length l) rest, length-append c.pop.new.self.items (c.in-Some.a ∷ []))

pub loop-a-preserved : goal.loop-a-preserved
loop-a-preserved c =
    let rest : c.loop-a.rest.items ≡ c.pop.new.self.items ++ c.in-Some.a ∷ [] = c.pop.ensures.items ∙ ap (λ (o : Option Live). c.pop.new.self.items ++ option_to_list o) c.in-Some.is in
    let turned : reverse c.loop-a.rest.items ≡ c.in-Some.a ∷ reverse c.pop.new.self.items = ap (λ (l : List Live). reverse l) rest ∙ reverse-append c.pop.new.self.items (c.in-Some.a ∷ []) in
    record {
      all = ap (λ (l : List Live). l ++ reverse c.pop.new.self.items) c.add.ensures.asks ∙ glue c.loop-a.book.asks c.in-Some.a (reverse c.pop.new.self.items) ∙ ap (λ (l : List Live). c.loop-a.book.asks ++ l) (sym turned) ∙ c.loop-a.invariant.all;
      begins = (subst (λ (l : List Live). AllByRecursion (λ a. a.ticks ≡ 0) l) turned c.loop-a.invariant.begins).1;
      room = omega (arith, c.loop-a.invariant.room, c.add.ensures.room, ap (λ (l : List Live). length l) rest, length-append c.pop.new.self.items (c.in-Some.a ∷ []));
    }

pub returns : goal.returns
returns c =
    let none : c.loop-a.rest.items ≡ [] = no_length c.loop-a.rest.items (omega (arith, c.loop-a.rest.ok, c.in_default.ensures.cases.0)) in
    sym (append-nil c.loop-a.book.asks) ∙ ap (λ (l : List Live). c.loop-a.book.asks ++ reverse l) (sym none) ∙ c.loop-a.invariant.all
