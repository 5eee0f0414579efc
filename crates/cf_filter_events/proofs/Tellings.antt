-- What a restart tells of the volume that it opened.
use Rattle.std.proofs.Common.{◌≡◌, ℕ, [], length, sym, ◌∙◌, ap}
use Rattle.cf_filter_events.specs.Answered.{answer_with}
use Rattle.cf_base.specs.declared.answers.Answer.{Answer}
use Rattle.cf_base.specs.declared.answers.OpenedBook.{OpenedBook}
use Rattle.cf_base.specs.declared.answers.Shown.TheVariants as shown
use Rattle.cf_disk.specs.Disk.{State as Disk}
use Rattle.cf_filter_machine.proofs.BooksTold.{told_known}
use Rattle.cf_filter_machine.specs.Held.{Held}
use Rattle.cf_filter_machine.specs.Sensing.{Stands}
use Rattle.cf_filter_machine.specs.Telling.{told_of}
use Rattle.cf_model.specs.Books.{opened_of}
use Rattle.cf_model.specs.State.{Filter}
use Rattle.cf_volume_points.specs.Known.{Known}

pub tells_resumed : {D : Type 0} (state : D → Disk) (x : Held D) (k : Known) (n : ℕ) (o : OpenedBook) (a : Answer) → k ≡ x.known → n ≡ k.count → o ≡ told_of k → a ≡ answer_with (shown.Resumed n o) []
    → (f : Filter) → Stands state x f → a ≡ answer_with (shown.Resumed (length f.volume.log) (opened_of f.volume.book)) []
tells_resumed state x k n o a known counts told is f stands =
    let count : n ≡ length f.volume.log = counts ∙ ap (λ (j : Known). j.count) known ∙ stands.volume.now.count in
    let book : o ≡ opened_of f.volume.book = told ∙ ap told_of known ∙ sym (told_known (state x.disk) x.known f.volume stands.volume stands.kept) in
    is ∙ ap (λ (m : ℕ). answer_with (shown.Resumed m o) []) count ∙ ap (λ (b : OpenedBook). answer_with (shown.Resumed (length f.volume.log) b) []) book
