-- The failure of a frame that a failure of a field is.
use Rattle.cf_codec.specs.declared.failures.CodecError.{CodecError}
use Rattle.cf_codec.specs.declared.failures.CodecError.TheVariants.{BadField, Short}
use Rattle.cf_wire.specs.declared.failures.WireError.{WireError}
use Rattle.cf_wire.specs.declared.failures.WireError.TheVariants as fail

abbrev pub wire_of : CodecError → WireError
wire_of (Short place) = fail.Short place
wire_of (BadField place) = fail.BadField place
