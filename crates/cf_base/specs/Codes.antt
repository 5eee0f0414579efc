-- The numbers of the codes.
use Rattle.std.specs.Prelude.{ℕ}
use Rattle.cf_base.specs.declared.codes.Code.{Code}
use Rattle.cf_base.specs.declared.codes.Code.TheVariants.{BadPath, NotFound, Exists, NotDirectory, IsDirectory, NotEmpty, IntoItself, TooDeep, NotPopulated, NotPlaceholder, AlreadyPlaceholder, PolicyDenied, Pinned, NotInSync, UsnMismatch, NotHydrated, IdentityTooLong, InUse, BadRange, TooLarge, NoHandle, NoWait, ProviderDown, StaleKey, Misaligned, OutsideAsk, WrongKind, RestartDenied, BadPolicy, TooManyWaits, TooManyAsks, TooManyHandles, Full, TableFull, Exhausted, Device, Broken, Off, Running, NoMessage, Stale, RemoteFault, Quota, NotAVolume, VersionGone}

-- the number by which a refused fetch names the code
abbrev pub number_of : Code → ℕ
number_of BadPath = 1
number_of NotFound = 2
number_of Exists = 3
number_of NotDirectory = 4
number_of IsDirectory = 5
number_of NotEmpty = 6
number_of IntoItself = 7
number_of TooDeep = 8
number_of NotPopulated = 9
number_of NotPlaceholder = 10
number_of AlreadyPlaceholder = 11
number_of PolicyDenied = 12
number_of Pinned = 13
number_of NotInSync = 14
number_of (UsnMismatch number) = 15
number_of NotHydrated = 16
number_of IdentityTooLong = 17
number_of InUse = 18
number_of BadRange = 19
number_of TooLarge = 20
number_of NoHandle = 21
number_of NoWait = 22
number_of ProviderDown = 23
number_of StaleKey = 24
number_of Misaligned = 25
number_of OutsideAsk = 26
number_of WrongKind = 27
number_of RestartDenied = 28
number_of BadPolicy = 29
number_of TooManyWaits = 30
number_of TooManyAsks = 31
number_of TooManyHandles = 32
number_of Full = 33
number_of TableFull = 34
number_of Exhausted = 35
number_of Device = 36
number_of Broken = 37
number_of Off = 38
number_of Running = 39
number_of NoMessage = 40
number_of Stale = 41
number_of RemoteFault = 42
number_of Quota = 43
number_of NotAVolume = 44
number_of VersionGone = 45
