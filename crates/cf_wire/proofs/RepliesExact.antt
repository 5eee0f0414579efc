-- Replies are read exactly.
use Rattle.std.proofs.Common.{◌≡◌, ℕ, ◌<◌, List, ◌∷◌, ◌⊎◌, inl, inr, refl, arith}
use Rattle.cf_base.specs.declared.messages.Reply.{Reply}
use Rattle.cf_base.specs.declared.messages.Reply.TheVariants as reply
use Rattle.cf_model.specs.Frames.{spell_reply}
use Rattle.cf_wire.specs.Reading.{reply_at, reply_body_at}
use Rattle.cf_wire.specs.Spelled.{FitsReply, reply_widths}
use Rattle.cf_wire.proofs.Exact.{IsExact}
use Rattle.cf_wire.proofs.Marks.{either, either_fits, kind_exact, none_choice, or_choice}
use Rattle.cf_wire.proofs.Parts.{form_exact}
use Rattle.cf_wire.proofs.ReplyParts.{bytes_exact, bytes_fits, bytes_of, bytes_parts, bytes_text, bytes_wide, done_exact, done_fits, done_of, done_parts, done_text, done_wide, fed_exact, fed_fits, fed_of, fed_parts, fed_text, fed_wide, gone_exact, gone_fits, gone_of, gone_parts, gone_text, gone_wide, listing_exact, listing_fits, listing_of, listing_parts, listing_text, listing_wide, missing_exact, missing_fits, missing_of, missing_parts, missing_text, missing_wide, refused_exact, refused_fits, refused_of, refused_parts, refused_text, refused_wide, void_exact, void_fits, void_of, void_parts, void_text, void_wide}

-- the parts of a reply, by its kind
abbrev Parts : Type 0
Parts = fed_parts ⊎ (listing_parts ⊎ (bytes_parts ⊎ (missing_parts ⊎ (done_parts ⊎ (void_parts ⊎ (refused_parts ⊎ (gone_parts ⊎ ⊥)))))))

abbrev kind : Parts → ℕ
kind x = either (λ (_ : fed_parts). 65) (either (λ (_ : listing_parts). 66) (either (λ (_ : bytes_parts). 67) (either (λ (_ : missing_parts). 68) (either (λ (_ : done_parts). 69) (either (λ (_ : void_parts). 70) (either (λ (_ : refused_parts). 71) (either (λ (_ : gone_parts). 72) (λ x. absurd x)))))))) x

abbrev text : Parts → List ℕ
text x = either fed_text (either listing_text (either bytes_text (either missing_text (either done_text (either void_text (either refused_text (either gone_text (λ x. absurd x)))))))) x

abbrev wide : Parts → List ℕ
wide x = either fed_wide (either listing_wide (either bytes_wide (either missing_wide (either done_wide (either void_wide (either refused_wide (either gone_wide (λ x. absurd x)))))))) x

abbrev fits : Parts → Type 0
fits x = either_fits fed_fits (either_fits listing_fits (either_fits bytes_fits (either_fits missing_fits (either_fits done_fits (either_fits void_fits (either_fits refused_fits (either_fits gone_fits (λ x. Unit {0})))))))) x

abbrev reply_of : Parts → Reply
reply_of x = either fed_of (either listing_of (either bytes_of (either missing_of (either done_of (either void_of (either refused_of (either gone_of (λ x. absurd x)))))))) x

small : (x : Parts) → kind x < 256
small (inl p) = omega arith
small (inr (inl p)) = omega arith
small (inr (inr (inl p))) = omega arith
small (inr (inr (inr (inl p)))) = omega arith
small (inr (inr (inr (inr (inl p))))) = omega arith
small (inr (inr (inr (inr (inr (inl p)))))) = omega arith
small (inr (inr (inr (inr (inr (inr (inl p))))))) = omega arith
small (inr (inr (inr (inr (inr (inr (inr (inl p)))))))) = omega arith
small (inr (inr (inr (inr (inr (inr (inr (inr x)))))))) = absurd x

spelled : (x : Parts) → kind x ∷ text x ≡ spell_reply (reply_of x)
spelled (inl p) = refl
spelled (inr (inl p)) = refl
spelled (inr (inr (inl p))) = refl
spelled (inr (inr (inr (inl p)))) = refl
spelled (inr (inr (inr (inr (inl p))))) = refl
spelled (inr (inr (inr (inr (inr (inl p)))))) = refl
spelled (inr (inr (inr (inr (inr (inr (inl p))))))) = refl
spelled (inr (inr (inr (inr (inr (inr (inr (inl p)))))))) = refl
spelled (inr (inr (inr (inr (inr (inr (inr (inr x)))))))) = absurd x

widths : (x : Parts) → 1 ∷ wide x ≡ reply_widths (reply_of x)
widths (inl p) = refl
widths (inr (inl p)) = refl
widths (inr (inr (inl p))) = refl
widths (inr (inr (inr (inl p)))) = refl
widths (inr (inr (inr (inr (inl p))))) = refl
widths (inr (inr (inr (inr (inr (inl p)))))) = refl
widths (inr (inr (inr (inr (inr (inr (inl p))))))) = refl
widths (inr (inr (inr (inr (inr (inr (inr (inl p)))))))) = refl
widths (inr (inr (inr (inr (inr (inr (inr (inr x)))))))) = absurd x

fit : (x : Parts) → fits x → FitsReply (reply_of x)
fit (inl p) f = (f.0, f.1.0, f.1.1)
fit (inr (inl p)) f = f
fit (inr (inr (inl p))) f = (f.0, f.1.0, f.1.1)
fit (inr (inr (inr (inl p)))) f = f
fit (inr (inr (inr (inr (inl p))))) f = (f.0, f.1.0, f.1.1)
fit (inr (inr (inr (inr (inr (inl p)))))) f = f
fit (inr (inr (inr (inr (inr (inr (inl p))))))) f = (f.0, f.1.1)
fit (inr (inr (inr (inr (inr (inr (inr (inl p)))))))) f = f
fit (inr (inr (inr (inr (inr (inr (inr (inr x)))))))) f = absurd x

back : (y : Reply) → FitsReply y → (x : Parts) × (fits x) × (reply_of x ≡ y)
back (reply.Feed round clock es) f = (inl (round.0, (clock, es)), (f.0, (f.1, f.2)), refl)
back (reply.Listing key es) f = (inr (inl (key, es)), f, refl)
back (reply.Bytes key start bytes) f = (inr (inr (inl (key, (start, bytes)))), (f.0, (f.1, f.2)), refl)
back (reply.Missing key) f = (inr (inr (inr (inl key))), f, refl)
back (reply.Done token rid version) f = (inr (inr (inr (inr (inl (token.0, (rid.0, version.0)))))), (f.0, (f.1, f.2)), refl)
back (reply.Void token) f = (inr (inr (inr (inr (inr (inl token.0))))), f, refl)
back (reply.Refused token w version) f = (inr (inr (inr (inr (inr (inr (inl (token.0, (w, version.0)))))))), (f.0, (tt, f.1)), refl)
back (reply.Gone key) f = (inr (inr (inr (inr (inr (inr (inr (inl key))))))), f, refl)

some_reply : (y : Reply) × FitsReply y
some_reply = (reply.Gone (record { epoch = 0; number = 0 }), (omega arith, omega arith))

pub replies_exact : IsExact spell_reply reply_widths FitsReply (λ r. r) reply_at
unfolding reply_at reply_body_at
replies_exact =
    let one = back some_reply.0 some_reply.1 in
    form_exact _ _ _ _ _ spell_reply reply_widths FitsReply (λ r. r)
    (kind_exact 65 _ _ _ _ _ _
    (or_choice 65 _ _ _ _ _ _ _ _ _ _ _ fed_exact (or_choice 66 _ _ _ _ _ _ _ _ _ _ _ listing_exact (or_choice 67 _ _ _ _ _ _ _ _ _ _ _ bytes_exact (or_choice 68 _ _ _ _ _ _ _ _ _ _ _ missing_exact (or_choice 69 _ _ _ _ _ _ _ _ _ _ _ done_exact (or_choice 70 _ _ _ _ _ _ _ _ _ _ _ void_exact (or_choice 71 _ _ _ _ _ _ _ _ _ _ _ refused_exact (or_choice 72 _ _ _ _ _ _ _ _ _ _ _ gone_exact (none_choice 73)))))))))
    one.0 one.1 small)
    reply_of (λ x f. spelled x) (λ x f. widths x) (λ x f. refl) fit back
