use Rattle.std.proofs.Common.{◌+◌, refl, sym, ◌∙◌}
use Rattle.cf_remote.specs.Stores.{holding}
use Rattle.cf_remote.proofs.Accepted.{version_fits, version_full}
use Rattle.cf_remote.proofs.decisions.why_version.Goals as goal

pub returns-then-held_with-gt-MOST_HELD_BYTES : goal.returns-then-held_with-gt-MOST_HELD_BYTES
returns-then-held_with-gt-MOST_HELD_BYTES c clock tokens =
    version_full (holding c.args.shelf.now clock tokens c.args.keep) c.args.rid c.args.expect c.args.bytes.now (sym c.is_live_file.ensures ∙ c.if-not-is_live_file.false) c.if-bytes-gt-MOST_FILE_BYTES.false
    (c.if-expect-latest_of.false ∙ c.latest_of.ensures.latest) c.held_with.result (c.held_with.ensures c.args.bytes.now (clock + 1) refl) c.if-held_with-gt-MOST_HELD_BYTES.true

pub returns : goal.returns
returns c clock tokens =
    version_fits (holding c.args.shelf.now clock tokens c.args.keep) c.args.rid c.args.expect c.args.bytes.now (sym c.is_live_file.ensures ∙ c.if-not-is_live_file.false) c.if-bytes-gt-MOST_FILE_BYTES.false
    (c.if-expect-latest_of.false ∙ c.latest_of.ensures.latest) c.held_with.result (c.held_with.ensures c.args.bytes.now (clock + 1) refl) c.if-held_with-gt-MOST_HELD_BYTES.false
