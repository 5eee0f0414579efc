-- What a reader has left, and what a field takes of it.
use Rattle.std.specs.Prelude.{◌≡◌, ◌+◌, ◌<◌, ℕ, List, ◌++◌, length}
use Rattle.cf_codec.specs.declared.failures.CodecError.{CodecError}
use Rattle.cf_codec.specs.declared.failures.CodecError.TheVariants.{Short}

-- the bytes that are left, and the place where they begin
pub record Left : Type 0 where
  pub place : ℕ
  pub rest : List ℕ

-- the field is this text, from the front
pub record Takes (text : List ℕ) (old new : Left) : Type 0 where
  pub parts : old.rest ≡ text ++ new.rest
  pub place : new.place ≡ old.place + length text

-- fewer bytes are left than the field has, and it stays so
pub record Lacks (n : ℕ) (fail : CodecError) (old new : Left) : Type 0 where
  pub fail_is : fail ≡ Short old.place
  pub lacks : length old.rest < n
  pub unchanged : new ≡ old
