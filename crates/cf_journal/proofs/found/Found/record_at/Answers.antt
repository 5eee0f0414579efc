use Rattle.std.proofs.Common.{arith}
use Rattle.cf_journal.proofs.WhatWasRead.{front_ends, front_short}
use Rattle.cf_journal.proofs.found.Found.record_at.Goals as goal

pub size_of-requires : goal.size_of-requires
size_of-requires c = front_short c.min.result c.as_slice-payloads.result.now c.args.self.now.payloads c.args.self.now.format c.as_slice-payloads.ensures c.requires

pub overflow_add-result-2 : goal.overflow_add-result-2
overflow_add-result-2 c = let low = front_ends c.min.result c.as_slice-payloads.result.now c.args.self.now.payloads c.args.self.now.format c.args.self.now.side c.base_of.result c.journal_at_of.result c.size_of.result c.as_slice-payloads.ensures c.requires c.base_of.ensures c.journal_at_of.ensures c.size_of.ensures in omega (arith, low)

pub overflow_add-result-3 : goal.overflow_add-result-3
overflow_add-result-3 c = let low = front_ends c.min.result c.as_slice-payloads.result.now c.args.self.now.payloads c.args.self.now.format c.args.self.now.side c.base_of.result c.journal_at_of.result c.size_of.result c.as_slice-payloads.ensures c.requires c.base_of.ensures c.journal_at_of.ensures c.size_of.ensures in omega (arith, low)

pub returns-clause-small : goal.returns-clause-small
returns-clause-small c = front_ends c.min.result c.as_slice-payloads.result.now c.args.self.now.payloads c.args.self.now.format c.args.self.now.side c.base_of.result c.journal_at_of.result c.size_of.result c.as_slice-payloads.ensures c.requires c.base_of.ensures c.journal_at_of.ensures c.size_of.ensures
