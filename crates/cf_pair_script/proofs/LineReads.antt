-- What a line of a script of two devices spells.
use Rattle.std.proofs.Common.{◌≡◌, ℕ, true, false, List, refl, sym, ap, ◌∙◌}
use Rattle.std.specs.Prelude.{Some, None}
use Rattle.cf_base.specs.declared.events.Event.{Event}
use Rattle.cf_base.specs.declared.events.Event.TheVariants as event
use Rattle.cf_base.specs.declared.policies.Mode.TheVariants as mode
use Rattle.cf_pair_events.specs.OfDevices.{is_of_device}
use Rattle.cf_pair_events.specs.declared.events.PairEvent.{PairEvent}
use Rattle.cf_pair_events.specs.declared.events.PairEvent.TheVariants as pair
use Rattle.cf_pair_model.specs.declared.devices.Device.{Device}
use Rattle.cf_pair_script.specs.PairScript.{SpellsOf}
use Rattle.cf_script.specs.Script as script
use Rattle.cf_script_words.specs.Words.{Reads}

-- an event of one device

pub of_none : (d : Device) (text : List ℕ) → Reads (script.Spells mode.Replay text) None → Reads (SpellsOf d text) None
of_none d text h (pair.Of whose e) is = h e is.1
of_none d text h (pair.Peer e) is = is
of_none d text h pair.Compare is = is

pub of_another : (d : Device) (text : List ℕ) (e : Event) → Reads (script.Spells mode.Replay text) (Some e) → is_of_device e ≡ false → Reads (SpellsOf d text) None
of_another d text e h foreign (pair.Of whose f) is =
    let bad : true ≡ false = sym is.2 ∙ ap is_of_device (h.1 f is.1) ∙ foreign in cc
of_another d text e h foreign (pair.Peer f) is = is
of_another d text e h foreign pair.Compare is = is

pub of_one : (d : Device) (text : List ℕ) (e : Event) → Reads (script.Spells mode.Replay text) (Some e) → is_of_device e ≡ true → Reads (SpellsOf d text) (Some (pair.Of d e))
of_one d text e h own = ((refl, h.0, own), one) where
  one : (y : PairEvent) → SpellsOf d text y → y ≡ pair.Of d e
  one (pair.Of whose f) is = let a : whose ≡ d = is.0 in let b : f ≡ e = h.1 f is.1 in cc
  one (pair.Peer f) is = absurd is
  one pair.Compare is = absurd is
