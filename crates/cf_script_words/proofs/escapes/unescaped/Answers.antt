use Rattle.std.proofs.Common.{sym, ◌∙◌, arith}
use Rattle.std.proofs.lemmas.Bool.{eqb-true}
use Rattle.cf_script_words.specs.Escapes.{code_of}
use Rattle.cf_script_words.proofs.PathMeans.{codes_stand_apart, written_stops, written_more, written_reads, written_whole}
use Rattle.cf_script_words.proofs.escapes.unescaped.Goals as goal

pub returns-in_default : goal.returns-in_default
returns-in_default c = λ q e. written_stops (code_of c.args.escapes) (codes_stand_apart c.args.escapes) c.loop-rest.text.items q c.loop-rest.rest.now (let empty = c.is_empty.ensures in let test = c.loop-rest-test.true in grind arith) c.in_default.ensures.none (sym c.loop-rest.invariant ∙ e)

pub loop-rest-preserved : goal.loop-rest-preserved
loop-rest-preserved c = rw c.in_ok-push.ensures.items (written_more (code_of c.args.escapes) c.args.word.now c.loop-rest.text.items c.loop-rest.rest.now c.in-Some.after.now c.in-Some.byte c.loop-rest.invariant c.in-Some.ensures.found)

pub returns : goal.returns
returns c = rw c.from_vec.ensures (written_reads (code_of c.args.escapes) (codes_stand_apart c.args.escapes) c.args.word.now c.loop-rest.text.items (written_whole (code_of c.args.escapes) c.args.word.now c.loop-rest.text.items c.loop-rest.rest.now (eqb-true _ _ (sym c.is_empty.ensures ∙ c.loop-rest-test.false)) c.loop-rest.invariant))
