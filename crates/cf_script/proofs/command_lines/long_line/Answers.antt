use Rattle.cf_script.proofs.command_lines.long_line.Goals as goal

pub returns-in-Pin : goal.returns-in-Pin
returns-in-Pin c = rw c.in-Pin.is c.pin_line.ensures

pub returns-in-Policy : goal.returns-in-Policy
returns-in-Policy c = rw c.in-Policy.is c.policy.ensures

pub returns-in-PlaceDir : goal.returns-in-PlaceDir
returns-in-PlaceDir c = rw c.in-PlaceDir.is c.place_dir.ensures

pub returns-in-Do : goal.returns-in-Do
returns-in-Do c = rw c.in-Do.is c.do_line.ensures

pub returns-in-Plan : goal.returns-in-Plan
returns-in-Plan c = rw c.in-Plan.is c.plan.ensures
