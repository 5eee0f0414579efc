use Rattle.std.proofs.Common.{refl}
use Rattle.cf_remote.proofs.entries.entries_of.Goals as goal

pub returns-in-Listing : goal.returns-in-Listing
returns-in-Listing c = (c.in-Listing.key, c.in-Listing.is)

pub returns-in-Feed : goal.returns-in-Feed
returns-in-Feed c = (refl, λ rid name. rw c.in-Feed.is refl)

pub returns-in-Bytes : goal.returns-in-Bytes
returns-in-Bytes c = (refl, λ rid name. rw c.in-Bytes.is refl)

pub returns-in-Missing : goal.returns-in-Missing
returns-in-Missing c = (refl, λ rid name. rw c.in-Missing.is refl)

pub returns-in-Done : goal.returns-in-Done
returns-in-Done c = (refl, λ rid name. rw c.in-Done.is refl)

pub returns-in-Void : goal.returns-in-Void
returns-in-Void c = (refl, λ rid name. rw c.in-Void.is refl)

pub returns-in-Refused : goal.returns-in-Refused
returns-in-Refused c = (refl, λ rid name. rw c.in-Refused.is refl)

pub returns-in-Gone : goal.returns-in-Gone
returns-in-Gone c = (refl, λ rid name. rw c.in-Gone.is refl)
