-- `hours::read_contract` meets its contract: each return is a case of `shape_of`.
-- Assumes nothing.
use Rattle.hours.proofs.SpanLaws.{shape-short, shape-terms, shape-windows, shape-length, shape-bad-term, shape-bad-window, shape-valid}
use Rattle.hours.proofs.read_contract.Goals as goal
use Rattle.hours.proofs.read_contract.Goals.{else-terms-le-MAX_TERMS-via-then-terms-le-MAX_TERMS+then-windows-le-MAX_WINDOWS+then-contract-terms+then-spans_ok+else-spans_ok-2, else-terms-le-MAX_TERMS-via-then-terms-le-MAX_TERMS+then-windows-le-MAX_WINDOWS+then-contract-terms+else-spans_ok, else-terms-le-MAX_TERMS-via-then-terms-le-MAX_TERMS+then-windows-le-MAX_WINDOWS+else-contract-terms, else-terms-le-MAX_TERMS-via-then-terms-le-MAX_TERMS+else-windows-le-MAX_WINDOWS, else-terms-le-MAX_TERMS-via-else-terms-le-MAX_TERMS}

pub returns-then-contract-lt-HEAD : goal.returns-then-contract-lt-HEAD
returns-then-contract-lt-HEAD c = shape-short c.args.contract.now c.if-contract-lt-HEAD.true

pub returns-then-spans_ok-2 : goal.returns-then-spans_ok-2
returns-then-spans_ok-2 c =
    shape-valid c.args.contract.now c.read_u16-terms.result c.read_u16-windows.result c.read_u16-terms.ensures c.read_u16-windows.ensures
    c.if-terms-le-MAX_TERMS.true c.if-windows-le-MAX_WINDOWS.true c.if-contract-terms.true
    c.spans_ok.result c.spans_ok.ensures c.if-spans_ok.true
    c.spans_ok-then-spans_ok.result c.spans_ok-then-spans_ok.ensures c.if-spans_ok-2.true

pub returns-else-terms-le-MAX_TERMS : goal.returns-else-terms-le-MAX_TERMS
returns-else-terms-le-MAX_TERMS c =
    let l = c.args.contract.now in
    let m = c.read_u16-terms.result in
    let n = c.read_u16-windows.result in
    let em = c.read_u16-terms.ensures in
    let en = c.read_u16-windows.ensures in
    elim c.else-terms-le-MAX_TERMS.branch [
      | else-terms-le-MAX_TERMS-via-then-terms-le-MAX_TERMS+then-windows-le-MAX_WINDOWS+then-contract-terms+then-spans_ok+else-spans_ok-2 w ↦
          shape-bad-window l m n em en w.spans_ok-then-spans_ok.result w.spans_ok-then-spans_ok.ensures w.if-spans_ok-2.false
      | else-terms-le-MAX_TERMS-via-then-terms-le-MAX_TERMS+then-windows-le-MAX_WINDOWS+then-contract-terms+else-spans_ok w ↦
          shape-bad-term l m n em en w.spans_ok.result w.spans_ok.ensures w.if-spans_ok.false
      | else-terms-le-MAX_TERMS-via-then-terms-le-MAX_TERMS+then-windows-le-MAX_WINDOWS+else-contract-terms w ↦
          shape-length l m n em en w.if-contract-terms.false
      | else-terms-le-MAX_TERMS-via-then-terms-le-MAX_TERMS+else-windows-le-MAX_WINDOWS w ↦
          shape-windows l m n em en w.if-windows-le-MAX_WINDOWS.false
      | else-terms-le-MAX_TERMS-via-else-terms-le-MAX_TERMS w ↦ shape-terms l m n em en w.if-terms-le-MAX_TERMS.false
    ]
