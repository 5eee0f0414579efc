-- What a request that is done leaves, by what was made of its parts.
use Rattle.std.proofs.Common.{◌≡◌, ℕ, ◌+◌, Bool, true, false, List, ◌∷◌, refl, sym, ap, ◌∙◌, subst}
use Rattle.std.specs.Prelude.{Option, Some, None, Result, Ok, Err, IfOk, OnErr, OnOk, option_map}
use Rattle.std.proofs.lemmas.Bool.{eq-eqb, ne_eqb}
use Rattle.cf_base.specs.declared.memory.OutOfMemory.{OutOfMemory}
use Rattle.cf_base.specs.declared.ids.Rid.{Rid}
use Rattle.cf_base.specs.declared.ids.Token.{Token}
use Rattle.cf_base.specs.declared.ids.Version.{Version}
use Rattle.cf_base.specs.declared.messages.Reply.{Reply}
use Rattle.cf_base.specs.declared.messages.Reply.TheVariants as reply
use Rattle.cf_base.specs.declared.messages.Request.TheVariants as request
use Rattle.cf_base.specs.declared.messages.Why.{Why}
use Rattle.cf_base.specs.declared.messages.Why.TheVariants as why
use Rattle.cf_model.specs.Numbers.{no_version}
use Rattle.cf_model.specs.Store.{Held, Mutation, Recorded, RecordedDone, RecordedVoid, Stored, as_recorded, decide, mutate, put_new, put_version, recorded_at, remote_step, version_told, with_token}
use Rattle.cf_remote.specs.Stores.{Decides, Gives, holding}
use Rattle.cf_wire.specs.Spelled.{ReplyHasRoom}

pub rid_is : (a : Rid) (n : ℕ) → a.0 ≡ n → a ≡ record { 0 = n }
rid_is a n e = λ i. record { 0 = e i }

pub version_is : (a : Version) (n : ℕ) → a.0 ≡ n → a ≡ record { 0 = n }
version_is a n e = λ i. record { 0 = e i }

pub done_is : (old : Held) (token : Token) (m : Mutation) (rid : Rid) (version : Version) (items : List Stored) (clock : ℕ) (tokens : List (Token × Recorded))
    → rid ≡ m.rid → version ≡ m.version → items ≡ m.items → clock ≡ old.clock + 1 → tokens ≡ (token, RecordedDone rid version) ∷ old.tokens
    → Gives (decide old token m None) old (Ok (reply.Done token rid version)) (holding items clock tokens old.keep)
done_is old token m rid version items clock tokens a b c d e =
    let recorded : tokens ≡ (token, RecordedDone m.rid m.version) ∷ old.tokens = e ∙ (λ i. (token, RecordedDone (a i) (b i)) ∷ old.tokens) in
    ((λ i. reply.Done token (a i) (b i)), (λ i. holding (c i) (d i) (recorded i) old.keep))

-- of what tells no version, none is told
pub none_told : (w : Why) → version_told no_version w ≡ no_version
none_told why.Conflict = refl
none_told why.NameTaken = refl
none_told why.NotThere = refl
none_told why.NotEmpty = refl
none_told why.Loop = refl
none_told why.Quota = refl
none_told why.BadName = refl
none_told why.TooDeep = refl
none_told why.TooLarge = refl

-- a request by its refusal

pub refused_gives : (old : Held) (token : Token) (m : Mutation) (w : Why) (version : Version) (result : Result Reply OutOfMemory) (new : Held) → m.refusal ≡ Some w → version ≡ version_told m.conflict w
    → IfOk result (λ r. r ≡ reply.Refused token w version) → OnOk result (new ≡ with_token token RecordedVoid old) → OnErr result (new ≡ old) → Decides token m old result new
refused_gives old token m w version (Ok r) new e v a b c =
    subst (λ (o : Option Why). Gives (decide old token m o) old (Ok r) new) (sym e) ((a ∙ ap (λ (x : Version). reply.Refused token w x) v), b)
refused_gives old token m w version (Err x) new e v a b c = c

pub accepted_gives : (old : Held) (token : Token) (m : Mutation) (result : Result Reply OutOfMemory) (new : Held) → m.refusal ≡ None → Gives (decide old token m None) old result new → Decides token m old result new
accepted_gives old token m result new e h = subst (λ (o : Option Why). Gives (decide old token m o) old result new) (sym e) h

-- a request whose token came first now

pub none_from : (token : Token) (o : Option Recorded) → None ≡ option_map (as_recorded token) o → o ≡ None
none_from token None e = refl
none_from token (Some r) e = cc

pub new_gives : (old : Held) (token : Token) (m : Mutation) (result : Result Reply OutOfMemory) (new : Held) → recorded_at old.tokens token ≡ None → Decides token m old result new
    → Gives (mutate old token m (recorded_at old.tokens token)) old result new
new_gives old token m result new e h = subst (λ (o : Option Recorded). Gives (mutate old token m o) old result new) (sym e) h

decided_room : (old : Held) (token : Token) (m : Mutation) (o : Option Why) → ReplyHasRoom (decide old token m o).0
decided_room old token m None = tt
decided_room old token m (Some w) = tt

pub room_of : (old : Held) (token : Token) (m : Mutation) (result : Result Reply OutOfMemory) (new : Held) → Decides token m old result new → IfOk result ReplyHasRoom
room_of old token m (Ok r) new h = subst ReplyHasRoom (sym h.0) (decided_room old token m m.refusal)
room_of old token m (Err e) new h = tt

module _ (old : Held) (token : Token) (rid : Rid) (expect : Version) (parent : Rid) (name bytes : List ℕ) (result : Result Reply OutOfMemory) (new : Held) (none : recorded_at old.tokens token ≡ None) where
  abbrev put_of : Bool → Mutation
  put_of first = elim first as (λ _. Mutation) [ true ↦ put_new old parent name bytes | false ↦ put_version old rid expect bytes ]

  pub file_gives : rid.0 ≡ 0 → Decides token (put_new old parent name bytes) old result new → Gives (remote_step old (request.Put token rid expect parent name bytes)) old result new
  file_gives e h = subst (λ (first : Bool). Gives (mutate old token (put_of first) (recorded_at old.tokens token)) old result new) (sym (eq-eqb rid.0 0 e))
      (new_gives old token (put_new old parent name bytes) result new none h)

  pub version_gives : (rid.0 ≡ 0 → ⊥) → Decides token (put_version old rid expect bytes) old result new → Gives (remote_step old (request.Put token rid expect parent name bytes)) old result new
  version_gives e h = subst (λ (first : Bool). Gives (mutate old token (put_of first) (recorded_at old.tokens token)) old result new) (sym (ne_eqb rid.0 0 e))
      (new_gives old token (put_version old rid expect bytes) result new none h)
