-- Requests are read exactly.
use Rattle.std.proofs.Common.{◌≡◌, ℕ, ◌<◌, List, ◌∷◌, ◌⊎◌, inl, inr, refl, arith}
use Rattle.cf_base.specs.declared.messages.Request.{Request}
use Rattle.cf_base.specs.declared.messages.Request.TheVariants as request
use Rattle.cf_model.specs.Frames.{spell_request}
use Rattle.cf_wire.specs.Reading.{request_at, request_body_at}
use Rattle.cf_wire.specs.Spelled.{FitsRequest, request_widths}
use Rattle.cf_wire.proofs.Exact.{IsExact}
use Rattle.cf_wire.proofs.Marks.{either, either_fits, kind_exact, none_choice, or_choice}
use Rattle.cf_wire.proofs.Parts.{form_exact}
use Rattle.cf_wire.proofs.RequestParts.{feed_exact, feed_fits, feed_of, feed_parts, feed_text, feed_wide, fetch_exact, fetch_fits, fetch_of, fetch_parts, fetch_text, fetch_wide, keep_exact, keep_fits, keep_of, keep_parts, keep_text, keep_wide, list_exact, list_fits, list_of, list_parts, list_text, list_wide, make_exact, make_fits, make_of, make_parts, make_text, make_wide, move_exact, move_fits, move_of, move_parts, move_text, move_wide, put_exact, put_fits, put_of, put_parts, put_text, put_wide, remove_exact, remove_fits, remove_of, remove_parts, remove_text, remove_wide, settle_exact, settle_fits, settle_of, settle_parts, settle_text, settle_wide}

-- the parts of a request, by its kind
abbrev Parts : Type 0
Parts = feed_parts ⊎ (list_parts ⊎ (fetch_parts ⊎ (put_parts ⊎ (make_parts ⊎ (move_parts ⊎ (remove_parts ⊎ (settle_parts ⊎ (keep_parts ⊎ ⊥))))))))

abbrev kind : Parts → ℕ
kind x = either (λ (_ : feed_parts). 1) (either (λ (_ : list_parts). 2) (either (λ (_ : fetch_parts). 3) (either (λ (_ : put_parts). 4) (either (λ (_ : make_parts). 5) (either (λ (_ : move_parts). 6) (either (λ (_ : remove_parts). 7) (either (λ (_ : settle_parts). 8) (either (λ (_ : keep_parts). 9) (λ x. absurd x))))))))) x

abbrev text : Parts → List ℕ
text x = either feed_text (either list_text (either fetch_text (either put_text (either make_text (either move_text (either remove_text (either settle_text (either keep_text (λ x. absurd x))))))))) x

abbrev wide : Parts → List ℕ
wide x = either feed_wide (either list_wide (either fetch_wide (either put_wide (either make_wide (either move_wide (either remove_wide (either settle_wide (either keep_wide (λ x. absurd x))))))))) x

abbrev fits : Parts → Type 0
fits x = either_fits feed_fits (either_fits list_fits (either_fits fetch_fits (either_fits put_fits (either_fits make_fits (either_fits move_fits (either_fits remove_fits (either_fits settle_fits (either_fits keep_fits (λ x. Unit {0}))))))))) x

abbrev request_of : Parts → Request
request_of x = either feed_of (either list_of (either fetch_of (either put_of (either make_of (either move_of (either remove_of (either settle_of (either keep_of (λ x. absurd x))))))))) x

small : (x : Parts) → kind x < 256
small (inl p) = omega arith
small (inr (inl p)) = omega arith
small (inr (inr (inl p))) = omega arith
small (inr (inr (inr (inl p)))) = omega arith
small (inr (inr (inr (inr (inl p))))) = omega arith
small (inr (inr (inr (inr (inr (inl p)))))) = omega arith
small (inr (inr (inr (inr (inr (inr (inl p))))))) = omega arith
small (inr (inr (inr (inr (inr (inr (inr (inl p)))))))) = omega arith
small (inr (inr (inr (inr (inr (inr (inr (inr (inl p))))))))) = omega arith
small (inr (inr (inr (inr (inr (inr (inr (inr (inr x))))))))) = absurd x

spelled : (x : Parts) → kind x ∷ text x ≡ spell_request (request_of x)
spelled (inl p) = refl
spelled (inr (inl p)) = refl
spelled (inr (inr (inl p))) = refl
spelled (inr (inr (inr (inl p)))) = refl
spelled (inr (inr (inr (inr (inl p))))) = refl
spelled (inr (inr (inr (inr (inr (inl p)))))) = refl
spelled (inr (inr (inr (inr (inr (inr (inl p))))))) = refl
spelled (inr (inr (inr (inr (inr (inr (inr (inl p)))))))) = refl
spelled (inr (inr (inr (inr (inr (inr (inr (inr (inl p))))))))) = refl
spelled (inr (inr (inr (inr (inr (inr (inr (inr (inr x))))))))) = absurd x

widths : (x : Parts) → 1 ∷ wide x ≡ request_widths (request_of x)
widths (inl p) = refl
widths (inr (inl p)) = refl
widths (inr (inr (inl p))) = refl
widths (inr (inr (inr (inl p)))) = refl
widths (inr (inr (inr (inr (inl p))))) = refl
widths (inr (inr (inr (inr (inr (inl p)))))) = refl
widths (inr (inr (inr (inr (inr (inr (inl p))))))) = refl
widths (inr (inr (inr (inr (inr (inr (inr (inl p)))))))) = refl
widths (inr (inr (inr (inr (inr (inr (inr (inr (inl p))))))))) = refl
widths (inr (inr (inr (inr (inr (inr (inr (inr (inr x))))))))) = absurd x

fit : (x : Parts) → fits x → FitsRequest (request_of x)
fit (inl p) f = f
fit (inr (inl p)) f = f
fit (inr (inr (inl p))) f = (f.0, f.1.0, f.1.1.0, f.1.1.1.0, f.1.1.1.1)
fit (inr (inr (inr (inl p)))) f = (f.0, f.1.0, f.1.1.0, f.1.1.1.0, f.1.1.1.1.0, f.1.1.1.1.1)
fit (inr (inr (inr (inr (inl p))))) f = (f.0, f.1.0, f.1.1)
fit (inr (inr (inr (inr (inr (inl p)))))) f = (f.0, f.1.0, f.1.1.0, f.1.1.1)
fit (inr (inr (inr (inr (inr (inr (inl p))))))) f = (f.0, f.1.0, f.1.1)
fit (inr (inr (inr (inr (inr (inr (inr (inl p)))))))) f = f
fit (inr (inr (inr (inr (inr (inr (inr (inr (inl p))))))))) f = f
fit (inr (inr (inr (inr (inr (inr (inr (inr (inr x))))))))) f = absurd x

back : (y : Request) → FitsRequest y → (x : Parts) × (fits x) × (request_of x ≡ y)
back (request.Feed round after) f = (inl (round.0, after), f, refl)
back (request.List key rid) f = (inr (inl (key, rid.0)), f, refl)
back (request.Fetch key rid version start len) f = (inr (inr (inl (key, (rid.0, (version.0, (start, len)))))), (f.0, (f.1, (f.2, (f.3, f.4)))), refl)
back (request.Put token rid expect parent name bytes) f = (inr (inr (inr (inl (token.0, (rid.0, (expect.0, (parent.0, (name, bytes)))))))), (f.0, (f.1, (f.2, (f.3, (f.4, f.5))))), refl)
back (request.MakeDir token parent name) f = (inr (inr (inr (inr (inl (token.0, (parent.0, name)))))), (f.0, (f.1, f.2)), refl)
back (request.Move token rid parent name) f = (inr (inr (inr (inr (inr (inl (token.0, (rid.0, (parent.0, name)))))))), (f.0, (f.1, (f.2, f.3))), refl)
back (request.Remove token rid expect) f = (inr (inr (inr (inr (inr (inr (inl (token.0, (rid.0, expect.0)))))))), (f.0, (f.1, f.2)), refl)
back (request.Settle token) f = (inr (inr (inr (inr (inr (inr (inr (inl token.0))))))), f, refl)
back (request.Keep token count) f = (inr (inr (inr (inr (inr (inr (inr (inr (inl (token.0, count))))))))), f, refl)

some_request : (y : Request) × FitsRequest y
some_request = (request.Settle (record { 0 = record { epoch = 0; number = 0 } }), (omega arith, omega arith))

pub requests_exact : IsExact spell_request request_widths FitsRequest (λ q. q) request_at
unfolding request_at request_body_at
requests_exact =
    let one = back some_request.0 some_request.1 in
    form_exact _ _ _ _ _ spell_request request_widths FitsRequest (λ q. q)
    (kind_exact 1 _ _ _ _ _ _
    (or_choice 1 _ _ _ _ _ _ _ _ _ _ _ feed_exact (or_choice 2 _ _ _ _ _ _ _ _ _ _ _ list_exact (or_choice 3 _ _ _ _ _ _ _ _ _ _ _ fetch_exact (or_choice 4 _ _ _ _ _ _ _ _ _ _ _ put_exact (or_choice 5 _ _ _ _ _ _ _ _ _ _ _ make_exact (or_choice 6 _ _ _ _ _ _ _ _ _ _ _ move_exact (or_choice 7 _ _ _ _ _ _ _ _ _ _ _ remove_exact (or_choice 8 _ _ _ _ _ _ _ _ _ _ _ settle_exact (or_choice 9 _ _ _ _ _ _ _ _ _ _ _ keep_exact (none_choice 10))))))))))
    one.0 one.1 small)
    request_of (λ x f. spelled x) (λ x f. widths x) (λ x f. refl) fit back
