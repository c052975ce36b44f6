mod PairLaws
