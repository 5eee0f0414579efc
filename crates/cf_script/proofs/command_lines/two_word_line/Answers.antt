use Rattle.cf_script.proofs.command_lines.two_word_line.Goals as goal

pub returns-in-Size : goal.returns-in-Size
returns-in-Size c = rw c.in-Size.is c.size.ensures

pub returns-in-Rename : goal.returns-in-Rename
returns-in-Rename c = rw c.in-Rename.is c.rename.ensures

pub returns-in-Ranges : goal.returns-in-Ranges
returns-in-Ranges c = rw c.in-Ranges.is c.ranges-in-Ranges.ensures

pub returns-in-Keep : goal.returns-in-Keep
returns-in-Keep c = rw c.in-Keep.is c.keep.ensures

pub returns-in-Convert : goal.returns-in-Convert
returns-in-Convert c = rw c.in-Convert.is c.convert.ensures

pub returns-in-Mark : goal.returns-in-Mark
returns-in-Mark c = rw c.in-Mark.is c.mark.ensures
