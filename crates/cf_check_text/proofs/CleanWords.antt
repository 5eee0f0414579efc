-- The words of a line have no byte 10, but for names that have one.
use Rattle.std.proofs.Common.{◌≡◌, ◌/◌, ◌%◌, ◌==◌, ◌&&◌, ℕ, zero, suc, Bool, true, false, List, [], ◌∷◌, ◌++◌, codes, cond, refl, ◌∙◌, length, map}
use Rattle.std.specs.List.{flat_map, list_all}
use Rattle.std.proofs.lemmas.List.Folds.{list_all-append}
use Rattle.cf_base.specs.declared.answers.Shown.{Shown}
use Rattle.cf_base.specs.declared.answers.Shown.TheVariants as shown
use Rattle.cf_base.specs.declared.changes.Change.{Change}
use Rattle.cf_base.specs.declared.changes.Change.TheVariants as change
use Rattle.cf_base.specs.declared.codes.Code.{Code}
use Rattle.cf_base.specs.declared.codes.Code.TheVariants.{UsnMismatch}
use Rattle.cf_base.specs.declared.items.Kind.{Kind}
use Rattle.cf_base.specs.declared.items.Kind.TheVariants as kind
use Rattle.cf_base.specs.declared.items.ListedItem.{ListedItem}
use Rattle.cf_base.specs.declared.items.Pin.{Pin}
use Rattle.cf_base.specs.declared.items.Pin.TheVariants as pin
use Rattle.cf_base.specs.declared.messages.Request.{Request}
use Rattle.cf_base.specs.declared.messages.Request.TheVariants as request
use Rattle.cf_base.specs.declared.notices.Frame.{Frame}
use Rattle.cf_base.specs.declared.notices.Frame.TheVariants as frame
use Rattle.cf_base.specs.declared.notices.Notice.{Notice}
use Rattle.cf_base.specs.declared.notices.Notice.TheVariants as notice
use Rattle.cf_base.specs.declared.notices.OperationAnswer.{OperationAnswer}
use Rattle.cf_base.specs.declared.notices.OperationAnswer.TheVariants as operation
use Rattle.cf_base.specs.declared.spans.Span.{Span}
use Rattle.cf_base.specs.declared.waits.AskKind.{AskKind}
use Rattle.cf_base.specs.declared.waits.AskKind.TheVariants.{Fetch, Validate, List as ListAsk, Dehydrate}
use Rattle.cf_base.specs.declared.waits.End.{End}
use Rattle.cf_base.specs.declared.waits.End.TheVariants as end
use Rattle.cf_report.specs.Changes.{change_words, kind_word, pin_word}
use Rattle.cf_report.specs.Texts.{ask_words, code_words, end_words, frame_words, listed, notice_words, operation_words, request_word, run, shown_words}
use Rattle.cf_report.specs.Words.{bytes_text, decimal, escape, hex_digit, hex_digits, name_text, pair_text}
use Rattle.cf_check_text.specs.Clean.{clean_change, clean_end, clean_notice, clean_shown, has_no_ten, is_not_ten}
use Rattle.cf_check_text.proofs.Decimals.{decimal_no_ten}

-- each of the words
abbrev pub CleanWords : List (List ℕ) → Type 0
CleanWords [] = Unit {0}
CleanWords (w ∷ ws) = (has_no_ten w ≡ true) × CleanWords ws

both : (a b : Bool) → a ≡ true → b ≡ true → (a && b) ≡ true
both a b e d = rw e d

pub left_of : (a b : Bool) → (a && b) ≡ true → a ≡ true
left_of true b e = refl
left_of false b e = e

pub right_of : (a b : Bool) → (a && b) ≡ true → b ≡ true
right_of true b e = e
right_of false b e = let z : false ≡ true = e in absurd cc

pub join : (xs ys : List ℕ) → has_no_ten xs ≡ true → has_no_ten ys ≡ true → has_no_ten (xs ++ ys) ≡ true
join xs ys e d = list_all-append is_not_ten xs ys ∙ both (has_no_ten xs) (has_no_ten ys) e d

pair : (a b : ℕ) → has_no_ten (pair_text a b) ≡ true
pair a b = join (decimal a) (46 ∷ decimal b) (decimal_no_ten a) (decimal_no_ten b)

digit : (n : ℕ) → is_not_ten (hex_digit n) ≡ true
digit zero = refl
digit (suc zero) = refl
digit (suc (suc zero)) = refl
digit (suc (suc (suc zero))) = refl
digit (suc (suc (suc (suc zero)))) = refl
digit (suc (suc (suc (suc (suc zero))))) = refl
digit (suc (suc (suc (suc (suc (suc zero)))))) = refl
digit (suc (suc (suc (suc (suc (suc (suc zero))))))) = refl
digit (suc (suc (suc (suc (suc (suc (suc (suc zero)))))))) = refl
digit (suc (suc (suc (suc (suc (suc (suc (suc (suc zero))))))))) = refl
digit (suc (suc (suc (suc (suc (suc (suc (suc (suc (suc zero)))))))))) = refl
digit (suc (suc (suc (suc (suc (suc (suc (suc (suc (suc (suc zero))))))))))) = refl
digit (suc (suc (suc (suc (suc (suc (suc (suc (suc (suc (suc (suc zero)))))))))))) = refl
digit (suc (suc (suc (suc (suc (suc (suc (suc (suc (suc (suc (suc (suc zero))))))))))))) = refl
digit (suc (suc (suc (suc (suc (suc (suc (suc (suc (suc (suc (suc (suc (suc zero)))))))))))))) = refl
digit (suc (suc (suc (suc (suc (suc (suc (suc (suc (suc (suc (suc (suc (suc (suc zero))))))))))))))) = refl
digit (suc (suc (suc (suc (suc (suc (suc (suc (suc (suc (suc (suc (suc (suc (suc (suc n)))))))))))))))) = refl

hexes : (bs : List ℕ) → has_no_ten (hex_digits bs) ≡ true
hexes [] = refl
hexes (b ∷ bs) = both (is_not_ten (hex_digit (b / 16))) _ (digit (b / 16)) (both (is_not_ten (hex_digit (b % 16))) _ (digit (b % 16)) (hexes bs))

bytes : (bs : List ℕ) → has_no_ten (bytes_text bs) ≡ true
bytes [] = refl
bytes (b ∷ bs) = hexes (b ∷ bs)

escaped : (b : ℕ) → is_not_ten b ≡ true → has_no_ten (escape b) ≡ true
escaped b h = by (b == 32) (b == 37)
  where
    by : (space percent : Bool) → has_no_ten (cond space (codes "%20") (cond percent (codes "%25") (b ∷ []))) ≡ true
    by true percent = refl
    by false true = refl
    by false false = both (is_not_ten b) true h refl

pub named : (name : List ℕ) → has_no_ten name ≡ true → has_no_ten (name_text name) ≡ true
named [] h = refl
named (b ∷ bs) h = join (escape b) (flat_map escape bs) (escaped b (left_of (is_not_ten b) (has_no_ten bs) h)) (named bs (right_of (is_not_ten b) (has_no_ten bs) h))

kind_clean : (k : Kind) → has_no_ten (kind_word k) ≡ true
kind_clean kind.File = refl
kind_clean kind.Dir = refl
kind_clean kind.PlaceholderFile = refl
kind_clean kind.PlaceholderDir = refl
kind_clean kind.UnpopulatedDir = refl

pin_clean : (p : Pin) → has_no_ten (pin_word p) ≡ true
pin_clean pin.Unspecified = refl
pin_clean pin.Pinned = refl
pin_clean pin.Unpinned = refl
pin_clean pin.Excluded = refl
pin_clean pin.Inherit = refl

flag : (b : Bool) (x y : List ℕ) → has_no_ten x ≡ true → has_no_ten y ≡ true → has_no_ten (cond b x y) ≡ true
flag true x y e d = e
flag false x y e d = d

code_clean : (c : Code) → CleanWords (code_words c)
code_clean (UsnMismatch number) = (refl, (pair number.epoch number.place, record {}))
code_clean _ = (refl, record {})

pub change_clean : (c : Change) → clean_change c ≡ true → CleanWords (change_words c)
change_clean (change.Make item parent n kind size identity) h = (refl, (decimal_no_ten item.0, (decimal_no_ten parent.0, (named n h, (kind_clean kind, (decimal_no_ten size, (bytes identity, record {})))))))
change_clean (change.Remove item) h = (refl, (decimal_no_ten item.0, record {}))
change_clean (change.Move item parent n) h = (refl, (decimal_no_ten item.0, (decimal_no_ten parent.0, (named n h, record {}))))
change_clean (change.Write item at news) h = (refl, (decimal_no_ten item.0, (decimal_no_ten at, (decimal_no_ten (length news), record {}))))
change_clean (change.Size item size) h = (refl, (decimal_no_ten item.0, (decimal_no_ten size, record {})))
change_clean (change.Filled item start news) h = (refl, (decimal_no_ten item.0, (decimal_no_ten start, (decimal_no_ten (length news), record {}))))
change_clean (change.Validated item start len) h = (refl, (decimal_no_ten item.0, (decimal_no_ten start, (decimal_no_ten len, record {}))))
change_clean (change.Emptied item start len) h = (refl, (decimal_no_ten item.0, (decimal_no_ten start, (decimal_no_ten len, record {}))))
change_clean (change.SetPin item pin) h = (refl, (decimal_no_ten item.0, (pin_clean pin, record {})))
change_clean (change.Mark item number) h = (refl, (decimal_no_ten item.0, (pair number.epoch number.place, record {})))
change_clean (change.Clear item) h = (refl, (decimal_no_ten item.0, record {}))
change_clean (change.Convert item identity) h = (refl, (decimal_no_ten item.0, (bytes identity, record {})))
change_clean (change.Revert item) h = (refl, (decimal_no_ten item.0, record {}))
change_clean (change.Rebase item identity len at) h = (refl, (decimal_no_ten item.0, (bytes identity, (decimal_no_ten len, (pair at.epoch at.place, record {})))))
change_clean (change.Take item identity size) h = (refl, (decimal_no_ten item.0, (bytes identity, (decimal_no_ten size, record {}))))
change_clean (change.Copy item from parent n) h = (refl, (decimal_no_ten item.0, (decimal_no_ten from.0, (decimal_no_ten parent.0, (named n h, record {})))))
change_clean (change.Populated item) h = (refl, (decimal_no_ten item.0, record {}))
change_clean (change.Keep item on) h = (refl, (decimal_no_ten item.0, (flag on (codes "yes") (codes "no") refl refl, record {})))

listed_clean : (items : List ListedItem) → list_all (λ i. has_no_ten i.name) items ≡ true → CleanWords (map listed items)
listed_clean [] h = record {}
listed_clean (i ∷ items) h =
    let name : has_no_ten i.name ≡ true = left_of (has_no_ten i.name) (list_all (λ j. has_no_ten j.name) items) h in
    let rest : list_all (λ j. has_no_ten j.name) items ≡ true = right_of (has_no_ten i.name) (list_all (λ j. has_no_ten j.name) items) h in
    (join (name_text i.name) (cond i.dir (codes ":d") (codes ":f")) (named i.name name) (flag i.dir (codes ":d") (codes ":f") refl refl), listed_clean items rest)

end_clean : (e : End) → clean_end e ≡ true → CleanWords (end_words e)
end_clean (end.Data content) h = (refl, (bytes content, record {}))
end_clean end.Hydrated h = (refl, record {})
end_clean (end.Listed items) h = (refl, listed_clean items h)
end_clean end.Emptied h = (refl, record {})
end_clean end.Full h = (refl, record {})
end_clean end.Closed h = (refl, record {})
end_clean (end.Failed status) h = (refl, (decimal_no_ten status, record {}))
end_clean end.TimedOut h = (refl, record {})
end_clean end.Cancelled h = (refl, record {})
end_clean end.Down h = (refl, record {})
end_clean (end.Refused code) h = (refl, code_clean code)

runs_clean : (runs : List Span) → CleanWords (map run runs)
runs_clean [] = record {}
runs_clean (r ∷ rs) = (join (decimal r.start) (43 ∷ decimal r.len) (decimal_no_ten r.start) (decimal_no_ten r.len), runs_clean rs)

pub shown_clean : (s : Shown) → clean_shown s ≡ true → CleanWords (shown_words s)
shown_clean shown.Done h = (refl, record {})
shown_clean (shown.Opened handle) h = (refl, (pair handle.0.epoch handle.0.number, record {}))
shown_clean (shown.Ended how) h = end_clean how h
shown_clean (shown.Pending wait) h = (refl, (pair wait.0.epoch wait.0.number, record {}))
shown_clean (shown.Count count) h = (refl, (decimal_no_ten count, record {}))
shown_clean (shown.Item item) h = (refl, (decimal_no_ten item.0, record {}))
shown_clean (shown.Info item kind size pin in_sync number identity) h =
    (refl, (decimal_no_ten item.0, (kind_clean kind, (decimal_no_ten size, (pin_clean pin, (flag in_sync (codes "insync") (codes "notinsync") refl refl, (pair number.epoch number.place, (bytes identity, record {}))))))))
shown_clean (shown.Ranges runs) h = (refl, runs_clean runs)
shown_clean (shown.Blocks used clusters) h = (refl, (decimal_no_ten used, (decimal_no_ten clusters, record {})))
shown_clean (shown.Resumed count opened) h = (refl, (decimal_no_ten count, record {}))
shown_clean (shown.Remote rid version) h = (refl, (decimal_no_ten rid.0, (decimal_no_ten version.0, record {})))
shown_clean (shown.Number number) h = (refl, (pair number.epoch number.place, record {}))
shown_clean (shown.Used clock) h = (refl, (decimal_no_ten clock, record {}))
shown_clean (shown.Freed count) h = (refl, (decimal_no_ten count, record {}))
shown_clean (shown.Retrieved content) h = (refl, (bytes content, record {}))
shown_clean (shown.Refused code) h = (refl, code_clean code)

ask_clean : (k : AskKind) (item : ℕ) (span : Span) → CleanWords (ask_words k item span)
ask_clean Fetch item span = (refl, (decimal_no_ten item, (decimal_no_ten span.start, (decimal_no_ten span.len, record {}))))
ask_clean Validate item span = (refl, (decimal_no_ten item, (decimal_no_ten span.start, (decimal_no_ten span.len, record {}))))
ask_clean ListAsk item span = (refl, (decimal_no_ten item, record {}))
ask_clean Dehydrate item span = (refl, (decimal_no_ten item, (decimal_no_ten span.start, (decimal_no_ten span.len, record {}))))

operation_clean : (a : OperationAnswer) → CleanWords (operation_words a)
operation_clean operation.Done = (refl, record {})
operation_clean (operation.Data content) = (refl, (bytes content, record {}))
operation_clean (operation.Refused code) = (refl, code_clean code)

request_clean : (r : Request) → has_no_ten (request_word r) ≡ true
request_clean (request.Feed round after) = refl
request_clean (request.List k rid) = refl
request_clean (request.Fetch k rid version start len) = refl
request_clean (request.Put token rid expect parent n content) = refl
request_clean (request.MakeDir token parent n) = refl
request_clean (request.Move token rid parent n) = refl
request_clean (request.Remove token rid expect) = refl
request_clean (request.Settle token) = refl
request_clean (request.Keep token count) = refl

frame_clean : (f : Frame) → CleanWords (frame_words f)
frame_clean (frame.Request r) = (request_clean r, record {})
frame_clean (frame.Reply answers reply) = (refl, (decimal_no_ten answers, record {}))

pub notice_clean : (n : Notice) → clean_notice n ≡ true → CleanWords (notice_words n)
notice_clean (notice.Change number change) h = (refl, (pair number.epoch number.place, change_clean change h))
notice_clean (notice.Background wait item) h = (refl, (pair wait.0.epoch wait.0.number, (refl, (decimal_no_ten item.0, record {}))))
notice_clean (notice.Ask ask) h = (refl, (pair ask.key.epoch ask.key.number, ask_clean ask.kind ask.item.0 ask.span))
notice_clean (notice.Cancel k) h = (refl, (pair k.epoch k.number, record {}))
notice_clean (notice.Done wait how) h = (refl, (pair wait.0.epoch wait.0.number, end_clean how h))
notice_clean (notice.Operation answer) h = (refl, operation_clean answer)
notice_clean (notice.Message sent) h = (flag sent.lost (codes "lost") (codes "sent") refl refl, (decimal_no_ten sent.message, frame_clean sent.frame))
notice_clean (notice.Fault message) h = (refl, (decimal_no_ten message, record {}))
notice_clean (notice.Skipped code) h = (refl, code_clean code)
