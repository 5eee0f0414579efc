-- What reading a frame answers, and that a frame spells one value.
use Rattle.std.proofs.Common.{◌≡◌, ℕ, List, ◌∷◌, ◌++◌, Result}
use Rattle.std.specs.Prelude.{MatchResult}
use Rattle.cf_base.specs.declared.messages.Reply.{Reply}
use Rattle.cf_base.specs.declared.messages.Request.{Request}
use Rattle.cf_model.specs.Frames.{spell_reply, spell_request}
use Rattle.cf_wire.specs.declared.failures.WireError.{WireError}
use Rattle.cf_wire.specs.declared.failures.WireError.TheVariants as fail
use Rattle.cf_wire.specs.Faults.{Answers}
use Rattle.cf_wire.specs.Reading.{GivesAll, reply_at, request_at, whole}
use Rattle.cf_wire.specs.Spelled.{FitsReply, FitsRequest, IsBytes, IsReply, IsRequest, reply_widths, request_widths}
use Rattle.cf_wire.proofs.Answered.{answered, no_front, one_value, only}
use Rattle.cf_wire.proofs.RepliesExact.{replies_exact}
use Rattle.cf_wire.proofs.RequestsExact.{requests_exact}

pub request_answered : (text : List ℕ) (read : Result Request WireError) → IsBytes text → GivesAll read (whole request_at text) → Answers IsRequest request_widths text read
request_answered text read bytes e = answered spell_request request_widths FitsRequest request_at requests_exact IsRequest (λ text x f e. record { fits = f; spelled = e }) (λ text x h. h.fits) (λ text x h. h.spelled) text read bytes e

pub request_only : (text : List ℕ) (read : Result Request WireError) (x : Request) → IsRequest text x → GivesAll read (whole request_at text) → MatchResult read (λ y. y ≡ x) (λ e. e ≡ fail.OutOfMemory)
request_only text read x h e = only spell_request request_widths FitsRequest request_at requests_exact IsRequest (λ text x f e. record { fits = f; spelled = e }) (λ text x h. h.fits) (λ text x h. h.spelled) text read x h e

pub one_request : (text : List ℕ) (x y : Request) → IsRequest text x → IsRequest text y → x ≡ y
one_request text x y g h = one_value spell_request request_widths FitsRequest request_at requests_exact IsRequest (λ text x f e. record { fits = f; spelled = e }) (λ text x h. h.fits) (λ text x h. h.spelled) text x y g h

pub no_request_in_front : (text : List ℕ) (b : ℕ) (rest : List ℕ) (x y : Request) → IsRequest text x → IsRequest (text ++ b ∷ rest) y → ⊥
no_request_in_front text b rest x y g h = no_front spell_request request_widths FitsRequest request_at requests_exact IsRequest (λ text x f e. record { fits = f; spelled = e }) (λ text x h. h.fits) (λ text x h. h.spelled) x y b rest text g h

pub reply_answered : (text : List ℕ) (read : Result Reply WireError) → IsBytes text → GivesAll read (whole reply_at text) → Answers IsReply reply_widths text read
reply_answered text read bytes e = answered spell_reply reply_widths FitsReply reply_at replies_exact IsReply (λ text x f e. record { fits = f; spelled = e }) (λ text x h. h.fits) (λ text x h. h.spelled) text read bytes e

pub reply_only : (text : List ℕ) (read : Result Reply WireError) (x : Reply) → IsReply text x → GivesAll read (whole reply_at text) → MatchResult read (λ y. y ≡ x) (λ e. e ≡ fail.OutOfMemory)
reply_only text read x h e = only spell_reply reply_widths FitsReply reply_at replies_exact IsReply (λ text x f e. record { fits = f; spelled = e }) (λ text x h. h.fits) (λ text x h. h.spelled) text read x h e

pub one_reply : (text : List ℕ) (x y : Reply) → IsReply text x → IsReply text y → x ≡ y
one_reply text x y g h = one_value spell_reply reply_widths FitsReply reply_at replies_exact IsReply (λ text x f e. record { fits = f; spelled = e }) (λ text x h. h.fits) (λ text x h. h.spelled) text x y g h

pub no_reply_in_front : (text : List ℕ) (b : ℕ) (rest : List ℕ) (x y : Reply) → IsReply text x → IsReply (text ++ b ∷ rest) y → ⊥
no_reply_in_front text b rest x y g h = no_front spell_reply reply_widths FitsReply reply_at replies_exact IsReply (λ text x f e. record { fits = f; spelled = e }) (λ text x h. h.fits) (λ text x h. h.spelled) x y b rest text g h
