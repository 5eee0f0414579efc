use Rattle.cf_script.proofs.command_lines.three_word_line.Goals as goal

pub returns-in-Read : goal.returns-in-Read
returns-in-Read c = rw c.in-Read.is c.read.ensures

pub returns-in-Get : goal.returns-in-Get
returns-in-Get c = rw c.in-Get.is c.get.ensures

pub returns-in-Write : goal.returns-in-Write
returns-in-Write c = rw c.in-Write.is c.write.ensures
